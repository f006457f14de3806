-- A loop over labels that closes their groups, and the tail behind it.
use mathlib.Core.Path.{◌≡◌, refl, sym, ap, ◌∙◌}
use mathlib.Core.List.{List, [], ◌∷◌, ◌++◌, append_assoc, append-nil}
use Prim.Native.Nat.{ℕ, suc, ◌+◌, ◌-◌, ◌*◌, ◌≤◌, ◌<◌}
use native.Mathlib.Nat.{zero-mul, suc-mul, mul-one, mul-le-mul_left}
use native.Mathlib.Numerals.{add-one}
use native.Mathlib.Omega.{arith}
use lib.ListN.{length, take, drop, get_or, length-append, length-drop, drop_of_length-le}
use lib.Seq.{take_at, take-length, length-take-le}
use lib.Ieee.{Float, nan}
use Rattle.lists.specs.Ends.{counted}
use Rattle.lists.specs.declared.Refusal.{Refusal}
use Rattle.std.proofs.Common.{Result, Ok, Err}
use Rattle.duration.specs.declared.align.End.{End}
use Rattle.duration.specs.declared.align.End.TheVariants.{At, Open}
use Rattle.lists.specs.Sizes.{most_frames}
use Rattle.lists.specs.Totals.{total}
use Rattle.duration.specs.declared.align.Label.{Label}
use Rattle.duration.specs.declared.align.Grown.{Grown}
use Rattle.steps.specs.Steps.{States, size, Outcome}
use Rattle.lists.specs.Refusals.{number_of, or_else}
use Rattle.duration.specs.Align.{label_of, Group, given, closing, tail, groups, states_in, target_of, fit_of, fit_along, refusal_of, refusal_along}
use Rattle.lists.specs.Answers.{Answer, refusing}
use Rattle.duration.specs.Inner.Asked.{InPlace, closed, grown, Closes, Labelled}
use Rattle.lists.proofs.Answers.{refused_is, accepted_is}
use Rattle.lists.proofs.Ends.{refuses}
use Rattle.lists.proofs.Refusals.{or_first}
use Rattle.duration.proofs.Groups.{groups-next}
use Rattle.duration.proofs.Closing.{accepted-group, fit-few}

abbrev joined : List ℕ → ℕ → Outcome → Outcome
joined ds c o = record { durations = ds ++ o.durations; changes = c + o.changes }

joined-two : (xs : List ℕ) (a : ℕ) (ys : List ℕ) (b : ℕ) (o : Outcome) → joined xs a (joined ys b o) ≡ joined (xs ++ ys) (a + b) o
joined-two xs a ys b o =
    ap (λ (l : List ℕ). record { durations = l; changes = a + (b + o.changes) }) (sym (append_assoc xs ys o.durations))
    ∙ ap (λ (n : ℕ). record { durations = (xs ++ ys) ++ o.durations; changes = n }) (let q : a + (b + o.changes) ≡ a + b + o.changes = omega arith in q)

-- the states passed, and those of the labels that are left
advance : (n i first k l : ℕ) → i < n → first + (n - i) * k ≡ l → first + k + (n - (i + 1)) * k ≡ l
advance n i first k l h e =
    let q : n - i ≡ suc (n - (i + 1)) = omega arith in
    let p : (n - i) * k ≡ (n - (i + 1)) * k + k = ap (λ (m : ℕ). m * k) q ∙ suc-mul (n - (i + 1)) k in
    omega arith

labels-few : (l k n : ℕ) → l * k ≡ n → 1 ≤ k → l ≤ n
labels-few l k n e h = omega (arith, mul-le-mul_left l h, mul-one l)

module _ (ss : States) (k : ℕ) (ends : List Float) where
  abbrev left : ℕ → ℕ → ℕ → List Group
  left done first i = groups k done first (drop i ends)

  -- the refusal and the outcome of all groups
  abbrev refusal : ℕ
  refusal = refusal_along ss (groups k 0 0 ends) 0

  abbrev outcome : Outcome
  outcome = fit_along ss (groups k 0 0 ends) 0

  -- i labels are passed: the states before `done` are closed, and the next label's first state is at `first`
  pub record Along (start work : List ℕ) (done first frames changes i : ℕ) : Type 0 where
    pub passed : i ≤ length ends
    pub place : first + (length ends - i) * k ≡ size ss
    pub order : done ≤ first
    pub few : frames ≤ most_frames
    pub little : changes ≤ i * most_frames
    pub long : length work ≡ length start
    pub so_far : joined (take done work) changes (fit_along ss (left done first i) frames) ≡ outcome
    pub refused : refusal_along ss (left done first i) frames ≡ refusal

  module _ (start work : List ℕ) (done first frames changes i : ℕ) (l : Labelled ss k ends start) (a : Along start work done first frames changes i) where
    -- a group that begins where the closed states end is the first of those that are left, and was closed with these values
    module _ (to : ℕ) (end : End) (later : List Group) (p : left done first i ≡ record { from = done; to = to; end = end } ∷ later)
        (value : ℕ) (values : List ℕ) (answer : Answer) (work' : List ℕ) (f : Closes ss (record { from = done; to = to; end = end }) frames work (value ∷ values) answer work') where
      abbrev group : Group
      group = record { from = done; to = to; end = end }

      abbrev durations : List ℕ
      durations = (fit_of ss group frames).durations

      abbrev more : ℕ
      more = (fit_of ss group frames).changes

      group-refused : (m : Refusal) → answer ≡ refusing (number_of m) → (w : List ℕ) → InPlace refusal outcome (Err m) w
      unfolding refusal_along
      group-refused m e w =
          let s = refused_is (number_of m) (refusal_of ss group frames) value values (sym e ∙ f.answer) in
          let y : refusal ≡ number_of m = sym a.refused ∙ ap (λ (gs : List Group). refusal_along ss gs frames) p ∙ or_first (refusal_of ss group frames) _ s.1 ∙ s.0 in
          let z : refusal ≡ 0 → ⊥ = λ v. s.1 (s.0 ∙ sym y ∙ v) in
          record { answer = refuses m refusal _ (sym y); output = λ v. absurd (z v) }

      -- it was accepted
      module _ (z : refusal_of ss group frames ≡ 0) where
        -- the durations before it and its own, and those of the groups after it
        so_far_is : joined (take done work ++ durations) (changes + more) (fit_along ss later (frames + total durations)) ≡ outcome
        unfolding fit_along
        so_far_is =
            sym (joined-two (take done work) changes durations more (fit_along ss later (frames + total durations)))
            ∙ ap (λ (gs : List Group). joined (take done work) changes (fit_along ss gs frames)) (sym p) ∙ a.so_far

        refused-later : refusal_along ss later (frames + total durations) ≡ refusal
        unfolding refusal_along
        refused-later =
            sym (ap (λ (n : ℕ). or_else n (refusal_along ss later (frames + total durations))) z)
            ∙ ap (λ (gs : List Group). refusal_along ss gs frames) (sym p) ∙ a.refused

        front : length work' ≡ length work → done ≤ to → to ≤ length work → take to work' ≡ take done work ++ durations
        front n o h =
            let w : work' ≡ take done work ++ (durations ++ drop to work) = f.output z in
            let lw : length work' ≡ length (take done work) + (length durations + length (drop to work)) = ap length w ∙ length-append (take done work) (durations ++ drop to work) ∙ ap (λ (n : ℕ). length (take done work) + n) (length-append durations (drop to work)) in
            let j : length (take done work) ≡ done = length-take-le done work (omega arith) in
            let v : length (take done work ++ durations) ≡ to = length-append (take done work) durations ∙ (let m : length (take done work) + length durations ≡ to = omega (arith, length-drop to work) in m) in
            ap (take to) (w ∙ sym (append_assoc (take done work) durations (drop to work))) ∙ take_at (take done work ++ durations) (drop to work) to v

    -- all labels are passed, and the tail is left
    module _ (h : length ends ≤ i) where
      pub all-passed : first ≡ size ss
      all-passed = let q : length ends - i ≡ 0 = omega arith in let p : (length ends - i) * k ≡ 0 = ap (λ (n : ℕ). n * k) q ∙ zero-mul k in omega (arith, a.place)

      the_tail : left done first i ≡ tail done first ∷ []
      unfolding groups
      the_tail = ap (λ (es : List Float). groups k done first es) (drop_of_length-le ends h)

      module _ (work' : List ℕ) (n : length work' ≡ length work) where
        tail-done : (c : ℕ) → Closes ss (tail done first) frames work (changes ∷ []) (counted (Ok c)) work' → InPlace refusal outcome (Ok c) work'
        unfolding fit_along refusal_along
        tail-done c f =
            let q = accepted_is (counted (Ok c)) (refusal_of ss (tail done first) frames) (changes ∷ []) f.answer refl in
            let v : c ∷ [] ≡ changes ∷ [] = q.1 in
            let e : c ≡ changes = cc in
            let o = so_far_is first Open [] the_tail changes [] (counted (Ok c)) work' f q.0 in
            let sum : outcome.changes ≡ c = sym (ap (λ (x : Outcome). x.changes) o) ∙ (let m : changes + 0 + 0 ≡ c = omega arith in m) in
            let y : refusal ≡ 0 = sym (refused-later first Open [] the_tail changes [] (counted (Ok c)) work' f q.0) in
            let whole : first ≡ length work = omega (arith, all-passed, a.long, l.lists.workspace) in
            let w = front first Open [] the_tail changes [] (counted (Ok c)) work' f q.0 n a.order (omega arith) in
            record {
              answer = rw (y, sum);
              output = λ q. sym (take-length work') ∙ ap (λ (m : ℕ). take m work') (n ∙ sym whole) ∙ w ∙ sym (append-nil _) ∙ ap (λ (x : Outcome). x.durations) o;
            }

        pub along-done : (r : Result ℕ Refusal) → Closes ss (tail done first) frames work (changes ∷ []) (counted r) work' → InPlace refusal outcome r work'
        along-done (Ok c) f = tail-done c f
        along-done (Err m) f = group-refused first Open [] the_tail changes [] (counted (Err m)) work' f m refl work'

    module _ (h : i < length ends) (label : Label) (e : label ≡ label_of first (get_or ends i nan)) where
      next : label.first + k ≡ first + k
      next = ap (λ (x : Label). x.first + k) e

      room : label.first + k + (length ends - (i + 1)) * k ≡ size ss
      room = rw next (advance (length ends) i first k (size ss) h a.place)

      -- what is left from here on
      here : (end : End) → label.end ≡ end → left done first i ≡ closing done (label.first + k) end (λ d. groups k d (label.first + k) (drop (i + 1) ends))
      here end q = groups-next k ends i done h first ∙ rw (add-one i, next, ← q, e)

      pub along_open : label.end ≡ Open → Along start work done (label.first + k) frames changes (i + 1)
      along_open q =
          record {
            passed = omega arith;
            place = room;
            order = omega (arith, next, a.order);
            few = a.few;
            little = omega (arith, a.little);
            long = a.long;
            so_far = ap (λ (gs : List Group). joined (take done work) changes (fit_along ss gs frames)) (sym (here Open q)) ∙ a.so_far;
            refused = ap (λ (gs : List Group). refusal_along ss gs frames) (sym (here Open q)) ∙ a.refused;
          }

      module _ (end : Float) (q : label.end ≡ At end) where
        module _ (r : Result Grown Refusal) (work' : List ℕ) (f : Closes ss (given done (label.first + k) end) frames work (grown ss (given done (label.first + k) end) frames) (closed r) work') where
          abbrev later : List Group
          later = left (label.first + k) (label.first + k) (i + 1)

          along-refused : (m : Refusal) → r ≡ Err m → (w : List ℕ) → InPlace refusal outcome (Err m) w
          along-refused m b w = group-refused (label.first + k) (At end) later (here (At end) q) _ _ (closed r) work' f m (ap closed b) w

          module _ (u : Grown) (b : r ≡ Ok u) where
            abbrev own : Outcome
            own = fit_of ss (given done (label.first + k) end) frames

            accepted : (refusal_of ss (given done (label.first + k) end) frames ≡ 0) × ((closed (Ok u)).values ≡ own.changes ∷ total own.durations ∷ [])
            accepted = accepted_is (closed (Ok u)) (refusal_of ss (given done (label.first + k) end) frames) _ (ap closed (sym b) ∙ f.answer) refl

            changes_is : u.changes ≡ own.changes
            changes_is = let v = accepted.1 in cc

            frames_is : u.frames ≡ total own.durations
            frames_is = let v = accepted.1 in cc

            grown-frames : frames + u.frames ≤ most_frames
            grown-frames = rw frames_is (accepted-group ss (given done (label.first + k) end) frames accepted.0).1

            more-few : u.changes ≤ most_frames
            more-few = rw changes_is (fit-few (states_in (given done (label.first + k) end) ss) (target_of end frames))

            grown-changes : changes + u.changes ≤ 268435456
            grown-changes = omega (arith, more-few, a.little, labels-few (length ends) k (size ss) l.cover l.some, l.lists.few)

            along-grown : length work' ≡ length work → Along start work' (label.first + k) (label.first + k) (frames + u.frames) (changes + u.changes) (i + 1)
            along-grown n =
                let tk = front (label.first + k) (At end) later (here (At end) q) _ _ (closed r) work' f accepted.0 n (omega (arith, next, a.order)) (omega (arith, room, a.long, l.lists.workspace)) in
                record {
                  passed = omega arith;
                  place = room;
                  order = omega arith;
                  few = grown-frames;
                  little = omega (arith, more-few, a.little);
                  long = n ∙ a.long;
                  so_far = rw (tk, changes_is, frames_is) (so_far_is (label.first + k) (At end) later (here (At end) q) _ _ (closed r) work' f accepted.0);
                  refused = rw frames_is (refused-later (label.first + k) (At end) later (here (At end) q) _ _ (closed r) work' f accepted.0);
                }

  -- a turn of the loop at which a group was closed, with the answer r
  pub record Turn (start work : List ℕ) (done first frames changes i : ℕ) (label : Label) (end : Float) (r : Result Grown Refusal) (work' : List ℕ) : Type 0 where
    pub labels : Labelled ss k ends start
    pub before : Along start work done first frames changes i
    pub here : i < length ends
    pub made : label ≡ label_of first (get_or ends i nan)
    pub ends_at : label.end ≡ At end
    pub closes : Closes ss (given done (label.first + k) end) frames work (grown ss (given done (label.first + k) end) frames) (closed r) work'

  module _ {start work : List ℕ} {done first frames changes i : ℕ} {label : Label} {end : Float} {r : Result Grown Refusal} {work' : List ℕ} (t : Turn start work done first frames changes i label end r work') where
    pub turn-refused : (m : Refusal) → r ≡ Err m → (w : List ℕ) → InPlace refusal outcome (Err m) w
    turn-refused = along-refused start work done first frames changes i t.labels t.before t.here label t.made end t.ends_at r work' t.closes

    module _ (u : Grown) (b : r ≡ Ok u) where
      pub turn-frames : frames + u.frames ≤ most_frames
      turn-frames = grown-frames start work done first frames changes i t.labels t.before t.here label t.made end t.ends_at r work' t.closes u b

      pub turn-changes : changes + u.changes ≤ 268435456
      turn-changes = grown-changes start work done first frames changes i t.labels t.before t.here label t.made end t.ends_at r work' t.closes u b

      pub turn-grown : length work' ≡ length work → Along start work' (label.first + k) (label.first + k) (frames + u.frames) (changes + u.changes) (i + 1)
      turn-grown = along-grown start work done first frames changes i t.labels t.before t.here label t.made end t.ends_at r work' t.closes u b
