-- A scan of the states for the least score.
use mathlib.Core.Path.{◌≡◌, ap, ◌∙◌, subst, sym}
use mathlib.Core.Logic.{⊎_elim}
use Prim.Native.Nat.{ℕ, ◌+◌, ◌≤◌, ◌<◌}
use native.Mathlib.Nat.{le_refl, le_trans}
use native.Mathlib.Omega.{arith}
use Rattle.lists.specs.Sizes.{most_states}
use Rattle.lists.proofs.Numbers.{le_or_lt}
use Rattle.steps.specs.declared.costs.Entry.{Entry}
use Rattle.steps.specs.Inner.Scores.{scores, keyed, sooner_of}
use Rattle.steps.proofs.Order.{sooner_lesser}

-- of n states with these keys, i are passed, and the best of them is known
pub record Scanning (K : ℕ → ℕ) (n i : ℕ) (best : Entry) : Type 0 where
  pub within : i ≤ n
  pub place : best.place < i
  pub known : best ≡ keyed K best.place
  pub least : (j : ℕ) → j < i → scores K best.place ≤ scores K j

module _ (K : ℕ → ℕ) (n : ℕ) (best : Entry) where
  pub scan_start : 0 < n → best ≡ keyed K 0 → Scanning K n 1 best
  scan_start h e =
      let z : best.place ≡ 0 = ap (λ (x : Entry). x.place) e in
      record {
        within = omega arith;
        place = omega arith;
        known = e ∙ ap (keyed K) (sym z);
        least = λ j l. let q : j ≡ 0 = omega arith in rw (z, q) (le_refl (scores K 0));
      }

  module _ (i : ℕ) (s : Scanning K n i best) (h : i < n) (next : Entry) (q : next ≡ keyed K i) where
    pub scan_fits : n ≤ most_states → (best.place < next.place) × (next.place < most_states)
    scan_fits f = let p : best.place < i = s.place in let z : next.place ≡ i = ap (λ (x : Entry). x.place) q in (omega arith, omega arith)

    pub scan_next : (r : Entry) → r ≡ sooner_of best next → Scanning K n (i + 1) r
    scan_next r e =
        let w = sooner_lesser K best.place i best next r s.known q e in
        let p : best.place < i = s.place in
        record {
          within = omega arith;
          place = ⊎_elim (λ (z : r.place ≡ best.place). omega arith) (λ (z : r.place ≡ i). omega arith) w.1.one;
          known = w.0;
          least = λ j l.
              ⊎_elim
              (λ (g : i ≤ j). let z : i ≡ j = omega arith in subst (λ (m : ℕ). scores K r.place ≤ scores K m) z w.1.right)
              (λ (g : j < i). le_trans w.1.left (s.least j g))
              (le_or_lt i j);
        }
