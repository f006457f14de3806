-- When each refusal is given: all that the crates above know of the numbers.
use Rattle.std.specs.Prelude.{◌≡◌, refl, true, false, cond, ◌||◌, List, ℕ, ◌*◌, ◌<◌, ◌≤◌, ltb, eqb}
use Rattle.std.proofs.Common.{◌∙◌, arith}
use Rattle.std.proofs.Math.Logic.{⊎_elim}
use borrow.Author.Tests.{ltb-false, lt-ltb, le-ltb, eqb-true, eq-eqb, ne_eqb}
use Rattle.std.proofs.Math.ListN.{length}
use Rattle.lists.specs.Totals.{total}
use Rattle.lists.proofs.Numbers.{le_or_lt}
use Rattle.lists.proofs.Refusals.{or_first, or_none, none_then}
use Rattle.lists.specs.Sizes.{outside}
use Rattle.spool.specs.Refusal.{place_refusal, states_refusal, counts_refusal, frames_refusal, shape_refusal, durations_refusal, trajectory_refusal, excerpt_refusal}
use Rattle.spool.specs.Refusal.Steps.{few_none, none_few, none_short, counts_3, counts_none, durations_then, trajectory-first}

-- a v that is not out of range
pub in_range : (v : ℕ) → outside v ≡ false → (1 ≤ v) × (v ≤ 64)
in_range v =
    (elim (ltb v 1) as (λ s. ltb v 1 ≡ s → (s || ltb 64 v) ≡ false → (1 ≤ v) × (v ≤ 64)) [
      | true ↦ λ g h. let z : ◌≡◌ {A = ℕ} 0 1 = cc in absurd (omega arith)
      | false ↦ λ g h. (ltb-false v 1 g, ltb-false 64 v h)
    ]) refl

-- ---- a place

module _ (component v : ℕ) where
  pub place_3 : outside v ≡ true → place_refusal component v ≡ 3
  unfolding place_refusal
  place_3 h = rw h

  pub place_10 : outside v ≡ false → v ≤ component → place_refusal component v ≡ 10
  unfolding place_refusal
  place_10 w h = rw (w, le-ltb component v h)

  pub place_0 : outside v ≡ false → component < v → place_refusal component v ≡ 0
  unfolding place_refusal
  place_0 w h = rw (w, lt-ltb component v h)

  -- and in no other case
  pub place_accepts : place_refusal component v ≡ 0 → (outside v ≡ false) × (component < v)
  place_accepts e =
      (elim (outside v) as (λ s. outside v ≡ s → (outside v ≡ false) × (component < v)) [
        | true ↦ λ w. absurd (omega (arith, place_3 w))
        | false ↦ λ w. ⊎_elim (λ (h : v ≤ component). absurd (omega (arith, place_10 w h))) (λ (h : component < v). (w, h)) (le_or_lt v component)
      ]) refl

-- ---- durations

module _ (ds : List ℕ) where
  -- they are accepted where they are few and short, and in no other case
  pub durations_0 : length ds ≤ 4096 → total ds ≤ 65536 → durations_refusal ds ≡ 0
  durations_0 few short = durations_then ds (few_none (length ds) few) ∙ rw (le-ltb 65536 (total ds) short)

  pub durations_accepts : durations_refusal ds ≡ 0 → (length ds ≤ 4096) × (total ds ≤ 65536)
  unfolding durations_refusal
  durations_accepts e = let z = or_none (states_refusal (length ds)) (frames_refusal (total ds)) e in (none_few (length ds) z.0, none_short (total ds) z.1)

-- ---- a trajectory of so many numbers, with its durations

pub record Accepted (numbers : ℕ) (ds : List ℕ) (v : ℕ) : Type 0 where
  pub few : length ds ≤ 4096
  pub width : outside v ≡ false
  pub agree : numbers ≡ total ds * v
  pub short : total ds ≤ 65536

module _ (numbers : ℕ) (ds : List ℕ) (v : ℕ) where
  -- 3, 4 and 5 by themselves
  pub many_3 : 4096 < length ds → trajectory_refusal numbers ds v ≡ 3
  unfolding trajectory_refusal
  many_3 h = rw (lt-ltb 4096 (length ds) h)

  pub width_3 : outside v ≡ true → trajectory_refusal numbers ds v ≡ 3
  width_3 h = let c = counts_3 (length ds) v h in trajectory-first numbers ds v (λ z. omega arith) ∙ c

  module _ (few : length ds ≤ 4096) (width : outside v ≡ false) where
    pub disagree_4 : (numbers ≡ total ds * v → ⊥) → trajectory_refusal numbers ds v ≡ 4
    unfolding trajectory_refusal
    disagree_4 h = rw (le-ltb 4096 (length ds) few, width, ne_eqb numbers (total ds * v) h)

    pub long_5 : numbers ≡ total ds * v → 65536 < total ds → trajectory_refusal numbers ds v ≡ 5
    unfolding trajectory_refusal
    long_5 e h = rw (le-ltb 4096 (length ds) few, width, eq-eqb numbers (total ds * v) e, lt-ltb 65536 (total ds) h)

  -- it is accepted in this case
  pub accepted_0 : Accepted numbers ds v → trajectory_refusal numbers ds v ≡ 0
  unfolding trajectory_refusal
  accepted_0 a = rw (le-ltb 4096 (length ds) a.few, a.width, eq-eqb numbers (total ds * v) a.agree, le-ltb 65536 (total ds) a.short)

  -- and in no other
  pub accepts : trajectory_refusal numbers ds v ≡ 0 → Accepted numbers ds v
  unfolding trajectory_refusal
  accepts e =
      let a = or_none (counts_refusal (length ds) v) (shape_refusal numbers (total ds) v) e in
      let b = or_none (cond (eqb numbers (total ds * v)) 0 4) (frames_refusal (total ds)) a.1 in
      let c = counts_none (length ds) v a.0 in
      record {
        few = c.0;
        width = c.1;
        agree = eqb-true numbers (total ds * v) (none_then (eqb numbers (total ds * v)) 3 b.0);
        short = none_short (total ds) b.1;
      }

  -- ---- one state of it

  module _ (state : ℕ) where
    pub excerpt_first : (trajectory_refusal numbers ds v ≡ 0 → ⊥) → excerpt_refusal numbers ds v state ≡ trajectory_refusal numbers ds v
    unfolding excerpt_refusal
    excerpt_first z = or_first (trajectory_refusal numbers ds v) _ z

    module _ (e : trajectory_refusal numbers ds v ≡ 0) where
      pub excerpt_10 : length ds ≤ state → excerpt_refusal numbers ds v state ≡ 10
      unfolding excerpt_refusal
      excerpt_10 h = rw (e, le-ltb state (length ds) h)

      pub excerpt_0 : state < length ds → excerpt_refusal numbers ds v state ≡ 0
      unfolding excerpt_refusal
      excerpt_0 h = rw (e, lt-ltb state (length ds) h)

    -- and in no other case
    pub excerpt_accepts : excerpt_refusal numbers ds v state ≡ 0 → Accepted numbers ds v × (state < length ds)
    unfolding excerpt_refusal
    excerpt_accepts e =
        let n : trajectory_refusal numbers ds v ≡ 0 = (or_none (trajectory_refusal numbers ds v) (cond (ltb state (length ds)) 0 10) e).0 in
        ⊎_elim (λ (h : length ds ≤ state). absurd (omega (arith, excerpt_10 n h))) (λ (h : state < length ds). (accepts n, h)) (le_or_lt (length ds) state)
