-- The runs of a mask have its voiced frames, each of them once; and where the list that the call writes has them.
use mathlib.Core.Path.{◌≡◌, refl, sym, ap, ◌∙◌}
use mathlib.Core.Bool.{Bool, true, false, cond, true≢false}
use mathlib.Core.List.{List, [], ◌∷◌, ◌++◌, map}
use mathlib.Core.Logic.{⊎_elim}
use Prim.Native.Nat.{ℕ, zero, suc, ◌+◌, ◌*◌, ◌<◌, ◌≤◌}
use native.Mathlib.Nat.{add-zero}
use native.Mathlib.Numerals.{unary_clauses}
use native.Mathlib.Omega.{arith}
use lib.ListN.{length, drop, get_or, replicate}
use lib.Seq.{get_or-drop}
use lib.Ieee.{Float}
use Rattle.lists.specs.Frames.{expand}
use Rattle.lists.proofs.Numbers.{le_or_lt}
use Rattle.lists.proofs.Parts.{drop-next}
use Rattle.model.specs.Weight.{voiced_at}
use Rattle.voicing.specs.Mask.{mask_of, weights_of, stream_mask}
use Rattle.voicing.specs.Boundaries.{ahead}
use Rattle.runs.specs.declared.Run.{Run}
use Rattle.runs.specs.Runs.{runs_from, runs_of, run_at, pairs_of}

-- ---- the voiced frames

ahead-voiced : (bs : List Bool) (u : ℕ) → u < ahead bs → get_or bs u false ≡ true
unfolding ahead
ahead-voiced [] u h = absurd (omega arith)
ahead-voiced (false ∷ bs) u h = absurd (omega arith)
ahead-voiced (true ∷ bs) zero h = refl
ahead-voiced (true ∷ bs) (suc u) h = ahead-voiced bs u (omega arith)

-- of the runs from frame p on
module _ (z : Run) where
  voiced-from : (all : List Bool) (inside : Bool) (p : ℕ) (bs : List Bool) → drop p all ≡ bs → (k : ℕ) → k < length (runs_from inside p bs)
      → (u : ℕ) → u < (get_or (runs_from inside p bs) k z).frames → get_or all ((get_or (runs_from inside p bs) k z).first + u) false ≡ true
  unfolding runs_from ahead
  voiced-from all inside p [] d k h u l = absurd (omega arith)
  voiced-from all inside p (false ∷ bs) d k h u l = voiced-from all false (suc p) bs (drop-next p all d) k h u l
  voiced-from all true p (true ∷ bs) d k h u l = voiced-from all true (suc p) bs (drop-next p all d) k h u l
  voiced-from all false p (true ∷ bs) d zero h u l = sym (get_or-drop p all u false) ∙ ap (λ (m : List Bool). get_or m u false) d ∙ ahead-voiced (true ∷ bs) u l
  voiced-from all false p (true ∷ bs) d (suc k) h u l = voiced-from all true (suc p) bs (drop-next p all d) k (omega arith) u l

  -- they have each voiced frame that is behind an open run
  in_from : (f : ℕ) (inside : Bool) (p : ℕ) (bs : List Bool) (t : ℕ) → f ≡ p + t → cond inside (ahead bs) 0 ≤ t → get_or bs t false ≡ true
      → (k : ℕ) × (k < length (runs_from inside p bs)) × ((get_or (runs_from inside p bs) k z).first ≤ f) × (f < (get_or (runs_from inside p bs) k z).first + (get_or (runs_from inside p bs) k z).frames)
  unfolding runs_from ahead
  in_from f inside p [] t e h v = absurd (true≢false (sym v))
  in_from f inside p (false ∷ bs) zero e h v = absurd (true≢false (sym v))
  in_from f inside p (false ∷ bs) (suc t) e h v = in_from f false (suc p) bs t (omega arith) (omega arith) v
  in_from f true p (true ∷ bs) zero e h v = absurd (omega arith)
  in_from f true p (true ∷ bs) (suc t) e h v = in_from f true (suc p) bs t (omega arith) (omega arith) v
  in_from f false p (true ∷ bs) zero e h v = (0, omega arith, omega arith, omega arith)
  in_from f false p (true ∷ bs) (suc t) e h v =
      ⊎_elim
      (λ (l : ahead bs ≤ t). let i = in_from f true (suc p) bs t (omega arith) l v in (suc i.0, omega (arith, i.1), i.2, i.3))
      (λ (l : t < ahead bs). (0, omega arith, omega arith, omega arith))
      (le_or_lt (ahead bs) t)

  -- and begin behind the frame that ends an open run
  first-from : (inside : Bool) (p : ℕ) (bs : List Bool) (k : ℕ) → k < length (runs_from inside p bs) → p + cond inside (suc (ahead bs)) 0 ≤ (get_or (runs_from inside p bs) k z).first
  unfolding runs_from ahead
  first-from inside p [] k h = absurd (omega arith)
  first-from true p (false ∷ bs) k h = omega (arith, first-from false (suc p) bs k h)
  first-from false p (false ∷ bs) k h = omega (arith, first-from false (suc p) bs k h)
  first-from true p (true ∷ bs) k h = omega (arith, first-from true (suc p) bs k h)
  first-from false p (true ∷ bs) zero h = omega arith
  first-from false p (true ∷ bs) (suc k) h = omega (arith, first-from true (suc p) bs k (omega arith))

  apart_from : (inside : Bool) (p : ℕ) (bs : List Bool) (j k : ℕ) → j < k → k < length (runs_from inside p bs)
      → (get_or (runs_from inside p bs) j z).first + (get_or (runs_from inside p bs) j z).frames < (get_or (runs_from inside p bs) k z).first
  unfolding runs_from
  apart_from inside p [] j k l h = absurd (omega arith)
  apart_from inside p (false ∷ bs) j k l h = apart_from false (suc p) bs j k l h
  apart_from true p (true ∷ bs) j k l h = apart_from true (suc p) bs j k l h
  apart_from false p (true ∷ bs) j zero l h = absurd (omega arith)
  apart_from false p (true ∷ bs) zero (suc k) l h = omega (arith, first-from true (suc p) bs k (omega arith))
  apart_from false p (true ∷ bs) (suc j) (suc k) l h = apart_from true (suc p) bs j k (omega arith) (omega arith)

-- the frames of a run are voiced
pub run-voiced : (bs : List Bool) (k : ℕ) → k < length (runs_of bs) → (u : ℕ) → u < (run_at bs k).frames → get_or bs ((run_at bs k).first + u) false ≡ true
run-voiced bs k h u l = voiced-from _ bs false 0 bs refl k h u l

-- every voiced frame is in a run
pub in_a_run : (bs : List Bool) (f : ℕ) → get_or bs f false ≡ true → (k : ℕ) × (k < length (runs_of bs)) × ((run_at bs k).first ≤ f) × (f < (run_at bs k).first + (run_at bs k).frames)
in_a_run bs f v = in_from _ f false 0 bs f (omega arith) (omega arith) v

-- and in no other: there is a frame between a run and a later one, which is in neither
pub runs-apart : (bs : List Bool) (j k : ℕ) → j < k → k < length (runs_of bs) → (run_at bs j).first + (run_at bs j).frames < (run_at bs k).first
runs-apart bs j k l h = apart_from _ false 0 bs j k l h

not-later : (bs : List Bool) (f j k : ℕ) → k < length (runs_of bs) → f < (run_at bs j).first + (run_at bs j).frames → (run_at bs k).first ≤ f → k ≤ j
not-later bs f j k h a b = ⊎_elim (λ (l : k ≤ j). l) (λ (l : j < k). absurd (omega (arith, runs-apart bs j k l h))) (le_or_lt k j)

-- so a frame names one run
pub one-run : (bs : List Bool) (f j k : ℕ) → j < length (runs_of bs) → k < length (runs_of bs) → (run_at bs j).first ≤ f → f < (run_at bs j).first + (run_at bs j).frames
    → (run_at bs k).first ≤ f → f < (run_at bs k).first + (run_at bs k).frames → j ≡ k
one-run bs f j k hj hk aj bj ak bk = omega (arith, not-later bs f j k hk bj ak, not-later bs f k j hj bk aj)

-- ---- the written list

pairs-read : (z : Run) (rs : List Run) (k : ℕ) → k < length rs → (get_or (pairs_of rs) (2 * k) 0 ≡ (get_or rs k z).first) × (get_or (pairs_of rs) (2 * k + 1) 0 ≡ (get_or rs k z).frames)
unfolding pairs_of
pairs-read z [] k h = absurd (omega arith)
pairs-read z (r ∷ rs) zero h = (refl, refl)
pairs-read z (r ∷ rs) (suc k) h = simp unary_clauses (simp unary_clauses at (pairs-read z rs k (omega arith)))

-- the two numbers of run k in the list that the call writes
pub pairs-at : (bs : List Bool) (k : ℕ) → k < length (runs_of bs) → (get_or (pairs_of (runs_of bs)) (2 * k) 0 ≡ (run_at bs k).first) × (get_or (pairs_of (runs_of bs)) (2 * k + 1) 0 ≡ (run_at bs k).frames)
pairs-at bs k h = pairs-read _ (runs_of bs) k h

-- ---- states

-- among frames that are as the one before them no run begins
alike : (d : ℕ) (b : Bool) (p : ℕ) (rest : List Bool) → length (runs_from b p (replicate d b ++ rest)) ≡ length (runs_from b (p + d) rest)
unfolding runs_from
alike zero b p rest = rw add-zero
alike (suc d) true p rest = alike d true (suc p) rest ∙ ap (λ (q : ℕ). length (runs_from true q rest)) (omega arith)
alike (suc d) false p rest = alike d false (suc p) rest ∙ ap (λ (q : ℕ). length (runs_from false q rest)) (omega arith)

states-from : (inside : Bool) (p : ℕ) (ds : List ℕ) (vs : List Bool) → length (runs_from inside p (expand ds vs)) ≤ length ds
unfolding runs_from expand
states-from inside p [] vs = omega arith
states-from inside p (d ∷ ds) [] = omega arith
states-from inside p (zero ∷ ds) (v ∷ vs) = omega (arith, states-from inside p ds vs)
states-from inside p (suc d ∷ ds) (false ∷ vs) = omega (arith, alike d false (suc p) (expand ds vs), states-from false (suc p + d) ds vs)
states-from true p (suc d ∷ ds) (true ∷ vs) = omega (arith, alike d true (suc p) (expand ds vs), states-from true (suc p + d) ds vs)
states-from false p (suc d ∷ ds) (true ∷ vs) = omega (arith, alike d true (suc p) (expand ds vs), states-from true (suc p + d) ds vs)

-- there are no more runs than states
pub runs-states : (size : ℕ) (records : List Float) (threshold : Float) (ds : List ℕ) → length (runs_of (stream_mask size records threshold ds)) ≤ length ds
unfolding mask_of
runs-states size records threshold ds = states-from false 0 ds (map (voiced_at threshold) (weights_of size records (length ds)))
