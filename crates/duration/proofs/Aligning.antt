-- The theorem of an alignment: one duration a state, each group fair to its end, and the tail natural.
use mathlib.Core.Path.{◌≡◌, refl, sym, ap, ◌∙◌, subst}
use mathlib.Core.Bool.{true, false}
use mathlib.Core.Logic.{⊎_elim}
use mathlib.Core.List.{List, [], ◌∷◌, ◌++◌, append-nil}
use Prim.Native.Nat.{ℕ, ◌+◌, ◌-◌, ◌*◌, ◌≤◌, ◌<◌, zero-le}
use native.Mathlib.Nat.{sub-zero, suc-mul}
use native.Mathlib.Omega.{arith}
use lib.ListN.{length, get_or, take, drop, length-append, length-drop, take-append-drop}
use lib.Seq.{take_all, drop-append-add, drop-drop}
use lib.Ieee.{Float, le}
use borrow.Rule.Slice.PartMut.{mid_len}
use Rattle.lists.specs.declared.Refusal.{Refusal}
use Rattle.std.proofs.Common.{Result, Ok, Err}
use Rattle.lists.specs.Sizes.{most_frames}
use Rattle.lists.specs.Totals.{total}
use Rattle.lists.specs.Refusals.{or_else}
use Rattle.lists.specs.Answers.{Answer, answer_of}
use Rattle.lists.proofs.Answers.{accepted_is}
use Rattle.lists.proofs.Numbers.{le_or_lt}
use Rattle.lists.proofs.Refusals.{or_none}
use Rattle.lists.proofs.Sums.{total-append}
use Rattle.floats.specs.Numbers.{nought}
use Rattle.steps.specs.Steps.{States, size, least, Outcome}
use Rattle.steps.proofs.Settling.{Pointwise, same, pointwise_at, pointwise_of}
use Rattle.steps.proofs.Settling.Pointwise.{nil, cons}
use Rattle.duration.specs.declared.Aligned.{Aligned}
use Rattle.duration.specs.Shortest.{refusal_of_shortest}
use Rattle.duration.specs.Estimate.{naturals}
use Rattle.duration.specs.Fit.{fit_to, refusal_to}
use Rattle.duration.specs.Align.{end_if, Group, given, closing, tail, groups, states_in, target_of, fit_of, fit_along, refusal_of, refusal_along}
use Rattle.duration.specs.Promise.{aligned, refusal_of_labels, early_of_labels, AlignSays}
use Rattle.duration.specs.Fitting.{FairTo, FairAlong, states_from, last_from, AcceptedAlong}
use Rattle.duration.specs.Fitting.FairAlong.{ended, next}
use Rattle.duration.proofs.Closing.{accepted-group}
use Rattle.duration.proofs.Estimates.{length-estimates, estimates-above}
use Rattle.duration.proofs.Fairness.{shortest-fit, fair-fit}
use Rattle.duration.proofs.Shortest.{Taken, shortest-taken}
use Rattle.duration.proofs.Refusals.{Labels, Fitting, labelled}

-- ---- one duration a state, none below its shortest

pub record Each (ss : States) (ds : List ℕ) : Type 0 where
  pub count : length ds ≡ size ss
  pub above : Pointwise ss.shortest ds

pointwise_append : {xs ys us vs : List ℕ} → Pointwise xs ys → Pointwise us vs → Pointwise (xs ++ us) (ys ++ vs)
pointwise_append nil q = q
pointwise_append (cons h p) q = cons h (pointwise_append p q)

module _ (ss : States) (agree : length ss.shortest ≡ size ss) where
  each-natural : Each ss (naturals ss)
  unfolding naturals
  each-natural = record { count = length-estimates nought ss; above = estimates-above nought ss agree }

  module _ (t : ℕ) (some : 0 < size ss) (r : refusal_to ss t ≡ 0) where
    fair_to : FairTo ss t (fit_to ss t)
    fair_to = record { above = λ a. fair-fit ss t some agree a r; otherwise = shortest-fit ss t some }

    each-fit : Each ss (fit_to ss t).durations
    each-fit = ⊎_elim
        (λ (h : t ≤ least ss). subst (λ (o : Outcome). Each ss o.durations) (sym (shortest-fit ss t some h)) (record { count = agree; above = same ss.shortest }))
        (λ (h : least ss < t). (let f = fair-fit ss t some agree h r in record { count = f.count; above = pointwise_of ss.shortest _ (agree ∙ sym f.count) (λ i k. f.at_least i (rw (← agree) k)) }))
        (le_or_lt t (least ss))

-- ---- group after group

-- the last group is the last of those behind the first
last-later : (g : Group) (gs : List Group) → 0 < length gs → last_from (g ∷ gs) ≡ last_from gs
unfolding last_from
last-later g [] h = absurd (omega arith)
last-later g (x ∷ gs) h = refl

-- the rest of a list from a place on, up to its end
rest_of : {A : Type 0} (xs : List A) (n a : ℕ) → length xs ≡ n → take (n - a) (drop a xs) ≡ drop a xs
rest_of xs n a q = take_all (n - a) (drop a xs) (omega (arith, length-drop a xs))

-- a part of it, and the rest
part_and_rest : (xs : List ℕ) (a b : ℕ) → a ≤ b → drop a xs ≡ take (b - a) (drop a xs) ++ drop b xs
part_and_rest xs a b h =
    let e : a + (b - a) ≡ b = omega arith in
    sym (take-append-drop (b - a) (drop a xs)) ∙ ap (λ (l : List ℕ). take (b - a) (drop a xs) ++ l) (drop-drop (b - a) a xs ∙ ap (λ (n : ℕ). drop n xs) e)

module _ (ss : States) (agree : length ss.varis ≡ size ss) (also : length ss.shortest ≡ size ss) where
  -- the groups from `done` on, to the last state, after so many frames
  record Course (done frames : ℕ) (gs : List Group) (o : Outcome) : Type 0 where
    some : 0 < length gs
    count : done + length o.durations ≡ size ss
    above : Pointwise (drop done ss.shortest) o.durations
    few : frames + total o.durations ≤ most_frames
    fair : FairAlong ss gs frames o.durations o.changes
    behind : done ≤ last_from gs
    natural : drop (last_from gs - done) o.durations ≡ naturals (states_from (last_from gs) ss)

  -- a group that lies in the lists has as many shortest durations as means
  same_parts : (g : Group) → g.to ≤ size ss → length (states_in g ss).shortest ≡ size (states_in g ss)
  same_parts g h = mid_len g.from g.to ss.shortest (omega arith) ∙ sym (mid_len g.from g.to ss.means h)

  -- the tail alone
  course-tail : (done frames : ℕ) → done ≤ size ss → refusal_of ss (tail done (size ss)) frames ≡ 0 → Course done frames (tail done (size ss) ∷ []) (fit_along ss (tail done (size ss) ∷ []) frames)
  unfolding fit_along last_from
  course-tail done frames h r =
      let g : Group = tail done (size ss) in
      let N : List ℕ = naturals (states_in g ss) in
      let e : Each (states_in g ss) N = each-natural (states_in g ss) (same_parts g (omega arith)) in
      let c : length N ≡ size ss - done = e.count ∙ mid_len done (size ss) ss.means (omega arith) in
      let n : N ++ [] ≡ N = append-nil N in
      record {
        some = omega arith;
        count = rw n (omega arith);
        above = subst (λ (l : List ℕ). Pointwise l (N ++ [])) (rest_of ss.shortest (size ss) done also) (rw n e.above);
        few = rw n (accepted-group ss g frames r).1;
        fair = next (record { count = e.count; by_end = refl }) ended;
        behind = omega arith;
        natural = let z : done - done ≡ 0 = omega arith in rw (z, n, rest_of ss.means (size ss) done refl, rest_of ss.varis (size ss) done agree, rest_of ss.shortest (size ss) done also);
      }

  -- a group with an end before others
  course-next : (done to frames : ℕ) (x : Float) (later : List Group) → let g = given done to x in let n = frames + total (fit_of ss g frames).durations in
      done < to → to ≤ size ss → refusal_of ss g frames ≡ 0 → Course to n later (fit_along ss later n) → Course done frames (g ∷ later) (fit_along ss (g ∷ later) frames)
  unfolding fit_along
  course-next done to frames x later h k r rest =
      let g : Group = given done to x in
      let ds : List ℕ = (fit_of ss g frames).durations in
      let es : List ℕ = (fit_along ss later (frames + total ds)).durations in
      let l : size (states_in g ss) ≡ to - done = mid_len done to ss.means k in
      let own : refusal_to (states_in g ss) (target_of x frames) ≡ 0 = (accepted-group ss g frames r).0 in
      let many : 0 < size (states_in g ss) = omega arith in
      let parts : length (states_in g ss).shortest ≡ size (states_in g ss) = same_parts g k in
      let e : Each (states_in g ss) ds = each-fit (states_in g ss) parts (target_of x frames) many own in
      let last : last_from (g ∷ later) ≡ last_from later = last-later g later rest.some in
      let apart : last_from later - done ≡ length ds + (last_from later - to) = omega (arith, e.count, rest.behind) in
      record {
        some = omega arith;
        count = rw (length-append ds es) (omega (arith, e.count, rest.count));
        above = subst (λ (l : List ℕ). Pointwise l (ds ++ es)) (sym (part_and_rest ss.shortest done to (omega arith))) (pointwise_append e.above rest.above);
        few = rw (total-append ds es) (omega (arith, rest.few));
        fair = next (record { count = e.count; by_end = fair_to (states_in g ss) parts (target_of x frames) many own }) rest.fair;
        behind = rw last (omega (arith, rest.behind));
        natural = rw (last, apart, drop-append-add ds es (last_from later - to)) rest.natural;
      }

  module _ (k : ℕ) (some : 1 ≤ k) where
    course : (done first frames : ℕ) (ends : List Float) → done ≤ first → first + length ends * k ≡ size ss → refusal_along ss (groups k done first ends) frames ≡ 0
        → Course done frames (groups k done first ends) (fit_along ss (groups k done first ends) frames)
    unfolding groups refusal_along
    course done first frames [] o h = λ e.
        let q : first ≡ size ss = omega arith in
        subst (λ (n : ℕ). Course done frames (tail done n ∷ []) (fit_along ss (tail done n ∷ []) frames)) (sym q)
        (course-tail done frames (omega arith) (or_none (refusal_of ss (tail done (size ss)) frames) 0 (rw q at e)).0)
    course done first frames (x ∷ xs) o h =
        elim (le nought x) as (λ s. let gs = closing done (first + k) (end_if s x) (λ d. groups k d (first + k) xs) in refusal_along ss gs frames ≡ 0 → Course done frames gs (fit_along ss gs frames)) [
          | false ↦ λ e. course done (first + k) frames xs (omega arith) (omega (arith, suc-mul (length xs) k)) e
          | true ↦ λ e.
              let g : Group = given done (first + k) x in
              let r = or_none (refusal_of ss g frames) _ e in
              course-next done (first + k) frames x (groups k (first + k) (first + k) xs) (omega arith) (omega (arith, suc-mul (length xs) k)) r.0
              (course (first + k) (first + k) (frames + total (fit_of ss g frames).durations) xs (omega arith) (omega (arith, suc-mul (length xs) k)) r.1)
        ]

-- ---- and of every outcome that the promise allows

aligned_is : (r : Result Aligned Refusal) (n c : ℕ) → aligned r ≡ answer_of 0 (n ∷ c ∷ []) → r ≡ Ok (record { states = n; changes = c })
aligned_is (Ok a) n c e =
    let q : a.states ∷ a.changes ∷ [] ≡ n ∷ c ∷ [] = ap (λ (x : Answer). x.values) e in
    let f : a.states ≡ n = cc in
    let g : a.changes ≡ c = cc in
    ap (λ (m : ℕ). Ok (record { states = m; changes = a.changes })) f ∙ ap (λ (m : ℕ). Ok (record { states = n; changes = m })) g
aligned_is (Err k) n c e = absurd (let q : ◌≡◌ {A = List ℕ} [] (n ∷ c ∷ []) = ap (λ (a : Answer). a.values) e in let z : ◌≡◌ {A = ℕ} 0 1 = cc in omega arith)

module _ (ss : States) (nstate : ℕ) (ends : List Float) (out work : List ℕ) (r : Result Aligned Refusal) (out' work' : List ℕ) (z : (aligned r).number ≡ 0) (f : AlignSays ss nstate ends out work r out' work') where
  abbrev gs : List Group
  gs = groups nstate 0 0 ends

  abbrev early : ℕ
  early = early_of_labels nstate ends ss out work

  unrefused : or_else early (refusal_along ss gs 0) ≡ 0
  unrefused = (accepted_is (aligned r) (or_else early (refusal_along ss gs 0)) _ f.answer z).0

  not-early : (refusal_of_labels nstate (length ends) (size ss) (length ss.varis) (length ss.shortest) (length out) (length work) ≡ 0) × (refusal_of_shortest ss.shortest ≡ 0)
  not-early = or_none _ (refusal_of_shortest ss.shortest) (or_none early (refusal_along ss gs 0) unrefused).0

  within_sizes : Labels nstate (length ends) (size ss) × Fitting (size ss) (length ss.varis) (length ss.shortest) (length out) (length work)
  within_sizes = labelled nstate (length ends) (size ss) (length ss.varis) (length ss.shortest) (length out) (length work) not-early.0

  -- every shortest is at least 1
  pub align_shortest : (length ss.shortest ≡ size ss) × Taken ss.shortest
  align_shortest = (within_sizes.1.shortest, shortest-taken ss.shortest not-early.1)

  -- nstate is in range, and the states are those of the labels
  pub align_labels : Labels nstate (length ends) (size ss)
  align_labels = within_sizes.0

  pub align_theorem : AcceptedAlong ss gs out r out'
  align_theorem =
      let o : Outcome = fit_along ss gs 0 in
      let l = within_sizes.1 in
      let w = course ss l.agree l.shortest nstate align_labels.some 0 0 0 ends zero-le (omega (arith, align_labels.cover)) (or_none early (refusal_along ss gs 0) unrefused).1 in
      let c : length o.durations ≡ size ss = omega (arith, w.count) in
      let low : (i : ℕ) → get_or ss.shortest i 0 ≤ get_or o.durations i 0 = λ i. pointwise_at w.above i in
      record {
        outcome = o;
        answer = aligned_is r (size ss) o.changes (f.answer ∙ ap (λ (m : ℕ). answer_of m (size ss ∷ o.changes ∷ [])) unrefused);
        output = f.output ∙ rw (unrefused, c);
        states = l.few;
        frames = omega (arith, w.few);
        count = c;
        at_least = λ i h. low i;
        positive = λ i h. (let one : 1 ≤ get_or ss.shortest i 0 = align_shortest.1.one_each i (rw align_shortest.0 h) in omega (arith, low i));
        fair = w.fair;
        natural = ap (λ (n : ℕ). drop n o.durations) (sym (sub-zero (last_from gs))) ∙ w.natural;
      }
