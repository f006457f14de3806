-- A walk along the states: the places where it finds that the mask turns, and the runs between them, one after the other.
use mathlib.Core.Path.{◌≡◌, refl, sym, ap, ◌∙◌, subst}
use mathlib.Core.Bool.{Bool, true, false, not, true≢false, false≢true}
use mathlib.Core.List.{List, [], ◌∷◌, ◌++◌, append_assoc, map}
use mathlib.Core.Logic.{⊎_elim}
use Prim.Native.Nat.{ℕ, zero, suc, ◌+◌, ◌-◌, ◌*◌, ◌<◌, ◌≤◌}
use native.Mathlib.Omega.{arith}
use borrow.Author.Tests.{lt-ltb, le-ltb, eq-eqb, ne_eqb}
use lib.Dec.{ltb, eqb}
use lib.ListN.{length, take, drop, get_or, set, replicate, length-drop, length-map, length-set, replicate-append-replicate, drop_of_length-le, get_or-map, get_or-eq_default}
use lib.Seq.{drop-drop, get_or-drop}
use lib.Ieee.{Float}
use Rattle.lists.specs.Totals.{total}
use Rattle.lists.proofs.Numbers.{le_or_lt}
use Rattle.lists.proofs.Fills.{stored, finished}
use Rattle.lists.proofs.Sums.{total-front}
use Rattle.model.specs.declared.voice.model.Weight.TheVariants.{Absent}
use Rattle.model.specs.Weight.{voiced_at}
use Rattle.voicing.specs.Mask.{mask_of, weight_at, weights_of, stream_mask}
use Rattle.voicing.specs.Boundaries.{ahead}
use Rattle.voicing.proofs.Theory.{weights-length, weights-at, stream-length}
use Rattle.voicing.proofs.Masks.{frame-next, frame-fits, frame-last}
use Rattle.voicing.proofs.Runs.{ahead-on}
use Rattle.voicing.proofs.Selections.{expand-run}
use Rattle.runs.specs.declared.Run.{Run}
use Rattle.runs.specs.declared.finding.Place.{Place}
use Rattle.runs.specs.declared.finding.Found.{Found}
use Rattle.runs.specs.Runs.{runs_from, runs_of, run_at, pairs_of}
use Rattle.runs.specs.Inner.Finding.{Stands, Starts, Reaches, FoundAt, turns_to, run_then, run_of}
use Rattle.runs.proofs.Masks.{runs-few}

-- ---- places

pub stands-first : {ds : List ℕ} → Stands ds (record { state = 0; frame = 0 })
unfolding total
stands-first = record { within = omega arith; framed = refl }

-- a place's frame is one of the stream's, or that behind the last one
pub stands-most : {ds : List ℕ} {p : Place} → Stands ds p → p.frame ≤ total ds
stands-most {ds} {p} s = omega (arith, s.framed, total-front ds p.state)

-- ---- whether a state turns

pub turns_voiced : (voiced is : Bool) (d : ℕ) → (d ≡ 0 → ⊥) → is ≡ true → voiced ≡ turns_to voiced is d
turns_voiced voiced is zero n e = absurd (n refl)
turns_voiced voiced is (suc d) n e = rw e

pub turns_unvoiced : (voiced is : Bool) (d : ℕ) → (d ≡ 0 → ⊥) → is ≡ false → not voiced ≡ turns_to voiced is d
turns_unvoiced voiced is zero n e = absurd (n refl)
turns_unvoiced voiced is (suc d) n e = rw e

-- one that doesn't has no frames, or not such as are asked for; one that does has some
goes_by : (voiced is : Bool) (d : ℕ) → false ≡ turns_to voiced is d → replicate d is ≡ replicate d (not voiced)
goes_by voiced is zero e = refl
goes_by true true (suc d) e = absurd (false≢true e)
goes_by true false (suc d) e = refl
goes_by false true (suc d) e = refl
goes_by false false (suc d) e = absurd (false≢true e)

starts_so : (voiced is : Bool) (d : ℕ) (rest : List Bool) → true ≡ turns_to voiced is d → Starts voiced (replicate d is ++ rest)
starts_so voiced is zero rest e = absurd (true≢false e)
starts_so voiced true (suc d) rest e = e
starts_so true false (suc d) rest e = sym e
starts_so false false (suc d) rest e = refl

-- ---- a walk from place p has come to place e, and no state before it turned

pub record Passed (voiced : Bool) (ds : List ℕ) (mask : List Bool) (p e : Place) : Type 0 where
  pub stands : Stands ds e
  pub later : p.state ≤ e.state
  pub forth : p.frame ≤ e.frame
  pub between : drop p.frame mask ≡ replicate (e.frame - p.frame) (not voiced) ++ drop e.frame mask

-- ---- a walk along a stream's states

module _ (size : ℕ) (records : List Float) (threshold : Float) (ds : List ℕ) where
  -- there are no more runs than frames
  pub runs-most : length (runs_of (stream_mask size records threshold ds)) ≤ total ds
  runs-most = omega (arith, stream-length size records threshold ds, runs-few (stream_mask size records threshold ds))

  -- a state's frames are voiced or unvoiced together
  state-frames : (s f d : ℕ) → s < length ds → f ≡ total (take s ds) → d ≡ get_or ds s 0
      → drop f (stream_mask size records threshold ds) ≡ replicate d (voiced_at threshold (weight_at size records s)) ++ drop (f + d) (stream_mask size records threshold ds)
  unfolding mask_of
  state-frames s f d t o q =
      let ws = weights_of size records (length ds) in
      expand-run ds (map (voiced_at threshold) ws) s f d _ (voiced_at threshold Absent) (simp length-map (weights-length size records (length ds))) t o q
      (sym (get_or-map (voiced_at threshold) ws s Absent ∙ ap (voiced_at threshold) (weights-at size records (length ds) s t)))

  module _ {voiced : Bool} {p e : Place} (w : Passed voiced ds (stream_mask size records threshold ds) p e) where
    reached : Starts voiced (drop e.frame (stream_mask size records threshold ds)) → Reaches voiced ds (stream_mask size records threshold ds) p e
    reached s = record { stands = w.stands; later = w.later; forth = w.forth; between = w.between; turned = s }

    -- there are no states behind
    pub passed-all : length ds ≤ e.state → Reaches voiced ds (stream_mask size records threshold ds) p (record { state = length ds; frame = e.frame })
    passed-all h =
        let l : length (stream_mask size records threshold ds) ≤ e.frame = omega (arith, stream-length size records threshold ds, frame-last ds e.state e.frame w.stands.framed h) in
        let q : e.state ≡ length ds = omega (arith, w.stands.within) in
        subst (λ (n : ℕ). Reaches voiced ds (stream_mask size records threshold ds) p (record { state = n; frame = e.frame })) q (reached (rw (drop_of_length-le (stream_mask size records threshold ds) l) tt))

    -- the state there turns, or doesn't
    module _ (t : e.state < length ds) where
      pub passed-turned : true ≡ turns_to voiced (voiced_at threshold (weight_at size records e.state)) (get_or ds e.state 0) → Reaches voiced ds (stream_mask size records threshold ds) p e
      passed-turned g = reached (rw (state-frames e.state e.frame (get_or ds e.state 0) t w.stands.framed refl) (starts_so voiced _ (get_or ds e.state 0) _ g))

      module _ {d : ℕ} (o : d ≡ get_or ds e.state 0) where
        pub passed-fits : e.frame + d ≤ total ds
        passed-fits = frame-fits ds e.state e.frame w.stands.framed d t o

        pub passed-next : false ≡ turns_to voiced (voiced_at threshold (weight_at size records e.state)) (get_or ds e.state 0)
            → Passed voiced ds (stream_mask size records threshold ds) p (record { state = e.state + 1; frame = e.frame + d })
        passed-next g =
            let mask = stream_mask size records threshold ds in
            let z : e.frame - p.frame + d ≡ e.frame + d - p.frame = omega (arith, w.forth) in
            record {
              stands = record { within = omega arith; framed = omega (arith, w.stands.framed, frame-next ds e.state t) };
              later = omega (arith, w.later);
              forth = omega (arith, w.forth);
              between = w.between
                  ∙ ap (λ (l : List Bool). replicate (e.frame - p.frame) (not voiced) ++ l) (state-frames e.state e.frame d t w.stands.framed o ∙ ap (λ (l : List Bool). l ++ drop (e.frame + d) mask) (goes_by voiced _ d (rw o g)))
                  ∙ rw (← append_assoc, replicate-append-replicate, z);
            }

-- ---- the runs of a mask that turns

-- frames that are as the one before are passed over
runs_past : (b : Bool) (p d : ℕ) (rest : List Bool) → runs_from b p (replicate d b ++ rest) ≡ runs_from b (p + d) rest
unfolding runs_from
runs_past b p zero rest = let z : p + 0 ≡ p = omega arith in rw z
runs_past true p (suc d) rest = let z : suc p + d ≡ p + suc d = omega arith in rw z at (runs_past true (suc p) d rest)
runs_past false p (suc d) rest = let z : suc p + d ≡ p + suc d = omega arith in rw z at (runs_past false (suc p) d rest)

-- where a run ends
runs-behind : (p : ℕ) (rest : List Bool) → Starts false rest → runs_from true p rest ≡ runs_from false p rest
unfolding runs_from
runs-behind p [] s = refl
runs-behind p (true ∷ bs) s = absurd (true≢false s)
runs-behind p (false ∷ bs) s = refl

ahead_none : (rest : List Bool) → Starts false rest → ahead rest ≡ 0
unfolding ahead
ahead_none [] s = refl
ahead_none (true ∷ bs) s = absurd (true≢false s)
ahead_none (false ∷ bs) s = refl

-- voiced frames up to there are one run, and there are none only where the mask ends
runs_on : (p d : ℕ) (rest : List Bool) → Starts true (replicate d true ++ rest) → Starts false rest → runs_from false p (replicate d true ++ rest) ≡ run_then p d (runs_from false (p + d) rest)
unfolding runs_from
runs_on p zero [] b e = refl
runs_on p zero (true ∷ bs) b e = absurd (true≢false e)
runs_on p zero (false ∷ bs) b e = absurd (false≢true b)
runs_on p (suc d) rest b e =
    let n : ahead (replicate d true ++ rest) ≡ d = omega (arith, ahead-on d rest, ahead_none rest e) in
    let z : suc p + d ≡ p + suc d = omega arith in
    rw (n, runs_past true (suc p) d rest, z, runs-behind (p + suc d) rest e)

module _ {ds : List ℕ} {mask : List Bool} {p b e : Place} (begun : Reaches true ds mask p b) (ended : Reaches false ds mask b e) where
  next-runs : runs_from false p.frame (drop p.frame mask) ≡ run_then b.frame (e.frame - b.frame) (runs_from false e.frame (drop e.frame mask))
  next-runs =
      let k : p.frame + (b.frame - p.frame) ≡ b.frame = omega (arith, begun.forth) in
      let m : b.frame + (e.frame - b.frame) ≡ e.frame = omega (arith, ended.forth) in
      ap (runs_from false p.frame) begun.between
      ∙ rw k at (runs_past false p.frame (b.frame - p.frame) (drop b.frame mask))
      ∙ ap (runs_from false b.frame) ended.between
      ∙ rw m at (runs_on b.frame (e.frame - b.frame) (drop e.frame mask) (subst (Starts true) ended.between begun.turned) ended.turned)

-- ---- the runs that are found, one after the other

-- one that has frames is there
then_some : (p n : ℕ) (rest : List Run) → 0 < n → run_then p n rest ≡ record { first = p; frames = n } ∷ rest
then_some p zero rest h = absurd (omega arith)
then_some p (suc n) rest h = refl

pub found_first : {ds : List ℕ} {mask : List Bool} {f : Found} → f.number ≡ 0 → Reaches true ds mask (record { state = 0; frame = 0 }) f.begin → Reaches false ds mask f.begin f.end → FoundAt ds mask f
found_first z b e = record { begins = b.stands; ends = e; before = omega arith; rest = rw z (next-runs b e) }

module _ {ds : List ℕ} {mask : List Bool} {f : Found} (a : FoundAt ds mask f) where
  -- where it has no frames it is behind the last one
  found_none : f.end.frame ≡ f.begin.frame → f.number ≡ length (runs_of mask)
  found_none e =
      let z : f.end.frame - f.begin.frame ≡ 0 = omega arith in
      let n : length (drop f.number (runs_of mask)) ≡ 0 = rw (a.rest, z) in
      omega (arith, a.before, length-drop f.number (runs_of mask))

  -- and so the number of all
  pub found_all : (k : ℕ) → length (runs_of mask) ≤ k → (f.number < k → f.end.frame ≡ f.begin.frame) → f.number ≡ length (runs_of mask)
  found_all k h few = ⊎_elim (λ (g : k ≤ f.number). omega (arith, a.before)) (λ (g : f.number < k). found_none (few g)) (le_or_lt k f.number)

  -- it has no frames, or some
  either : {P : Type 0} → (f.end.frame ≡ f.begin.frame → P) → (f.begin.frame < f.end.frame → P) → P
  either none some = ⊎_elim (λ (g : f.end.frame ≤ f.begin.frame). none (omega (arith, a.ends.forth))) some (le_or_lt f.end.frame f.begin.frame)

  found_has : f.number < length (runs_of mask) → f.begin.frame < f.end.frame
  found_has h = either (λ e. absurd (omega (arith, found_none e))) (λ g. g)

  module _ (some : f.begin.frame < f.end.frame) where
    found_some : drop f.number (runs_of mask) ≡ run_of f ∷ runs_from false f.end.frame (drop f.end.frame mask)
    found_some = a.rest ∙ then_some _ (f.end.frame - f.begin.frame) _ (omega arith)

    found_within : f.number < length (runs_of mask)
    found_within = omega (arith, length-drop f.number (runs_of mask), ap length found_some)

    -- the others follow
    found-behind : drop (f.number + 1) (runs_of mask) ≡ runs_from false f.end.frame (drop f.end.frame mask)
    found-behind = sym (drop-drop 1 f.number (runs_of mask)) ∙ ap (drop 1) found_some

    pub found-next : {g : Found} → g.number ≡ f.number + 1 → Reaches true ds mask f.end g.begin → Reaches false ds mask g.begin g.end → FoundAt ds mask g
    found-next o b e = record { begins = b.stands; ends = e; before = omega (arith, found_within); rest = rw o (found-behind ∙ next-runs b e) }

    found-pairs : pairs_of (drop f.number (runs_of mask)) ≡ f.begin.frame ∷ (f.end.frame - f.begin.frame) ∷ pairs_of (drop (f.number + 1) (runs_of mask))
    unfolding pairs_of
    found-pairs = ap pairs_of found_some ∙ rw found-behind

-- ---- a loop that writes two numbers a run has written those before the one that is found

pub record Writing (ds : List ℕ) (mask : List Bool) (out : List ℕ) (f : Found) (at : ℕ) : Type 0 where
  pub found : FoundAt ds mask f
  pub twice : at ≡ 2 * f.number
  pub long : length out ≡ 2 * length (runs_of mask)
  pub so_far : take at out ++ pairs_of (drop f.number (runs_of mask)) ≡ pairs_of (runs_of mask)

pub writing : {ds : List ℕ} {mask : List Bool} {out : List ℕ} {f : Found} → FoundAt ds mask f → f.number ≡ 0 → length out ≡ 2 * length (runs_of mask) → Writing ds mask out f 0
writing a z l = record { found = a; twice = omega arith; long = l; so_far = rw z }

module _ {ds : List ℕ} {mask : List Bool} {out : List ℕ} {f : Found} {at : ℕ} (w : Writing ds mask out f at) where
  pub writing-some : at < length out → f.begin.frame < f.end.frame
  writing-some h = found_has w.found (omega (arith, w.twice, w.long))

  pub writing-room : at < length out → at + 1 < length out
  writing-room h = omega (arith, w.twice, w.long)

  pub writing-next : (n : ℕ) → at < length out → n + f.begin.frame ≡ f.end.frame → {g : Found} → g.number ≡ f.number + 1 → FoundAt ds mask g → Writing ds mask (set (set out at f.begin.frame) (at + 1) n) g (at + 2)
  writing-next n h e {g} o b =
      let m : n ≡ f.end.frame - f.begin.frame = omega arith in
      let k : at + 1 + 1 ≡ at + 2 = omega arith in
      record {
        found = b;
        twice = omega (arith, w.twice);
        long = simp length-set w.long;
        so_far = rw (o, ← k)
            (stored (set out at f.begin.frame) (at + 1) n _ _ (rw length-set (writing-room h))
            (stored out at f.begin.frame _ _ h (rw m (ap (λ (l : List ℕ). take at out ++ l) (sym (found-pairs w.found (writing-some h))) ∙ w.so_far))));
      }

  pub written : length out ≤ at → out ≡ pairs_of (runs_of mask)
  unfolding pairs_of
  written h =
      let l : length (runs_of mask) ≤ f.number = omega (arith, w.twice, w.long) in
      finished out at _ _ h (rw (drop_of_length-le (runs_of mask) l)) w.so_far

-- ---- run k: the one that is found, or one that is not there

module _ (ds : List ℕ) (mask : List Bool) (f : Found) (k : ℕ) (a : FoundAt ds mask f) (most : f.number ≤ k) (few : f.number < k → f.end.frame ≡ f.begin.frame) where
  pub found-run : 0 < f.end.frame - f.begin.frame → (run_at mask k ≡ run_of f) × (k < length (runs_of mask))
  found-run h =
      let s : f.begin.frame < f.end.frame = omega arith in
      let n : f.number ≡ k = ⊎_elim (λ (g : k ≤ f.number). omega arith) (λ (g : f.number < k). absurd (omega (arith, few g))) (le_or_lt k f.number) in
      let z : f.number + 0 ≡ k = omega arith in
      (rw z at (sym (get_or-drop f.number (runs_of mask) 0 (record { first = 0; frames = 0 }))) ∙ ap (λ (l : List Run). get_or l 0 (record { first = 0; frames = 0 })) (found_some a s), rw (← n) (found_within a s))

  -- there is no such run
  behind : f.end.frame ≡ f.begin.frame → length (runs_of mask) ≤ k
  behind e = omega (arith, found_none a e)

  pub found-frames : (run_at mask k).frames ≡ f.end.frame - f.begin.frame
  found-frames = either
      a
      (λ e. ap (λ (r : Run). r.frames) (get_or-eq_default (runs_of mask) (record { first = 0; frames = 0 }) (behind e)) ∙ omega arith)
      (λ g. ap (λ (r : Run). r.frames) (found-run (omega arith)).0)

  -- there is one exactly where it has frames
  pub found-there : ltb k (length (runs_of mask)) ≡ not (eqb (f.end.frame - f.begin.frame) 0)
  found-there = either
      a
      (λ e. rw (le-ltb k (length (runs_of mask)) (behind e), eq-eqb (f.end.frame - f.begin.frame) 0 (omega arith)))
      (λ g. rw (lt-ltb k (length (runs_of mask)) (found-run (omega arith)).1, ne_eqb (f.end.frame - f.begin.frame) 0 (λ z. omega arith)))
