-- What a speed does at its limits: at +0 it is refused; at -0, below 0, at NaN and at the infinities every state gets its shortest.
use mathlib.Core.Path.{◌≡◌, refl, sym, ap, ◌∙◌}
use mathlib.Core.Bool.{Bool, true, false, cond, ◌&&◌, ◌||◌}
use mathlib.Core.List.{List}
use Prim.Native.Nat.{ℕ, ◌*◌, ◌≤◌, ◌<◌}
use native.Mathlib.Nat.{mul-pos, le_trans}
use native.Mathlib.Omega.{arith}
use lib.Dec.{eqb, lit≤}
use lib.IntN.{ℤ}
use lib.ListN.{length, get_or}
use lib.Ieee.{Float, nan, inf, fin, binary64, up, down, round, of_bits, div, eq, level}
use lib.Ieee.Exact.{HasValue}
use lib.Ieee.Fits.{down_pos}
use borrow.Author.Tests.{le-ltb, le-leb, ne_eqb, eqb-true}
use Rattle.lists.specs.Sizes.{most_frames}
use Rattle.lists.specs.Totals.{total}
use Rattle.floats.specs.Rounding.{nearest_half, to_integral, frames_of, rounded_of}
use Rattle.floats.specs.Numbers.{nought, one, number}
use Rattle.floats.proofs.Below.{nan-one, endless-below, cond_below, round-below}
use Rattle.floats.proofs.Differences.{number-value}
use Rattle.steps.specs.Steps.{States, size, least, unchanged}
use Rattle.duration.specs.Fit.{fit_to, refusal_to}
use Rattle.duration.specs.Estimate.{naturals}
use Rattle.duration.specs.Speed.{target_at, fit_at, refusal_at}
use Rattle.duration.proofs.Estimates.{estimates-above}
use Rattle.steps.proofs.Settling.{Pointwise}
use Rattle.steps.proofs.Settling.Pointwise.{nil, cons}
use Rattle.duration.proofs.Shortest.{total-some}

-- ---- what a count of frames comes to over such a speed

module _ (n : ℕ) where
  by_zero : (x : Float) (e : ℤ) → HasValue x false n 1 → 0 < n → rounded_of (div binary64 x (fin false 0 e)) ≡ 65537
  unfolding div rounded_of to_integral frames_of
  by_zero nan e v z = absurd v
  by_zero (inf s) e v z = absurd v
  by_zero (fin true m k) e v z = absurd (let q = v.0 in let r : ◌≡◌ {A = ℕ} 0 1 = cc in omega arith)
  by_zero (fin false m k) e v z =
      let p : 0 < n * down k = mul-pos z (down_pos k) in
      rw (ne_eqb m 0 (λ q. (let r : 0 * up k * 1 ≡ n * down k = ap (λ (i : ℕ). i * up k * 1) (sym q) ∙ v.1 in omega arith)))

  by_below : (x : Float) (m : ℕ) (e : ℤ) → HasValue x false n 1 → rounded_of (div binary64 x (fin true m e)) ≡ 1
  unfolding div
  by_below nan m e v = absurd v
  by_below (inf s) m e v = absurd v
  by_below (fin true a k) m e v = absurd (let q = v.0 in let r : ◌≡◌ {A = ℕ} 0 1 = cc in omega arith)
  by_below (fin false a k) m e v =
      cond_below (eqb m 0) (cond (eqb a 0) nan (inf true)) (round binary64 true (a * up k * down e) (m * up e * down k)) (cond_below (eqb a 0) nan (inf true) nan-one endless-below)
      (round-below (a * up k * down e) (m * up e * down k))

  by_infinite : (x : Float) (s : Bool) → HasValue x false n 1 → rounded_of (div binary64 x (inf s)) ≡ 1
  unfolding div rounded_of to_integral frames_of nearest_half
  by_infinite nan s v = absurd v
  by_infinite (inf t) s v = absurd v
  by_infinite (fin true a k) s v = absurd (let q = v.0 in let r : ◌≡◌ {A = ℕ} 0 1 = cc in omega arith)
  by_infinite (fin false a k) true v = refl
  by_infinite (fin false a k) false v = refl

by_nan : (x : Float) → rounded_of (div binary64 x nan) ≡ 1
unfolding div rounded_of to_integral frames_of
by_nan nan = refl
by_nan (inf s) = refl
by_nan (fin s m e) = refl

-- ---- none of these speeds is 1

level_apart : (a b : ℕ) → 0 < b → level true a false b ≡ false
level_apart a b h =
    (elim (eqb a b) as (λ s. eqb a b ≡ s → s && (false || eqb a 0) ≡ false) [
      | true ↦ λ e. ne_eqb a 0 (λ q. omega (arith, eqb-true a b e))
      | false ↦ λ e. refl
    ])
    refl

not-one-below : (m : ℕ) (e : ℤ) → eq (fin true m e) one ≡ false
unfolding eq of_bits
not-one-below m e = level_apart _ _ (let h : 0 < 1 * 1 * down e = omega (arith, down_pos e) in h)

not-one-zero : (e : ℤ) → eq (fin false 0 e) one ≡ false
unfolding eq of_bits
not-one-zero e = rw (ne_eqb (0 * up e * 1) (1 * 1 * down e) (λ q. omega (arith, down_pos e)))

-- ---- the theorems

-- numbers that are nowhere longer have no larger total
under-total : {xs ys : List ℕ} → Pointwise xs ys → total xs ≤ total ys
unfolding total
under-total nil = omega arith
under-total (cons h p) = omega (arith, under-total p)

module _ (ss : States) (some : 0 < size ss) (agree : length ss.shortest ≡ size ss) (low : (i : ℕ) → i < length ss.shortest → 1 ≤ get_or ss.shortest i 0) (small : total (naturals ss) ≤ most_frames) where
  value : HasValue (number (total (naturals ss))) false (total (naturals ss)) 1
  value = number-value (total (naturals ss)) (le_trans small (lit≤ tt))

  some-low : 0 < least ss
  some-low = total-some ss.shortest low (rw agree some)

  -- every state gets its shortest, with no change
  pub Shortest : Float → Type 0
  Shortest speed = (refusal_at ss speed ≡ 0) × (fit_at ss speed ≡ unchanged ss.shortest)

  at-shortest : (speed : Float) → eq speed one ≡ false → target_at ss speed ≡ 1 → Shortest speed
  unfolding Shortest refusal_at fit_at refusal_to fit_to
  at-shortest speed e t =
      let z : eqb (size ss) 0 ≡ false = ne_eqb (size ss) 0 (λ q. omega arith) in
      (rw (le-ltb most_frames (total (naturals ss)) small, e, t, z, le-leb 1 (least ss) some-low), rw (e, t, z, le-leb 1 (least ss) some-low))

  pub speed-nan : Shortest nan
  unfolding target_at eq
  speed-nan = at-shortest nan refl (by_nan (number (total (naturals ss))))

  pub speed_infinite : (s : Bool) → Shortest (inf s)
  unfolding target_at eq of_bits
  speed_infinite s = at-shortest (inf s) refl (by_infinite (total (naturals ss)) (number (total (naturals ss))) s value)

  -- -0 too
  pub speed-below : (m : ℕ) (e : ℤ) → Shortest (fin true m e)
  unfolding target_at
  speed-below m e = at-shortest (fin true m e) (not-one-below m e) (by_below (total (naturals ss)) (number (total (naturals ss))) m e value)

  pub speed-zero : (e : ℤ) → refusal_at ss (fin false 0 e) ≡ 7
  unfolding refusal_at refusal_to target_at naturals
  speed-zero e =
      let p : 0 < total (naturals ss) = omega (arith, some-low, under-total (estimates-above nought ss agree)) in
      let t : target_at ss (fin false 0 e) ≡ 65537 = by_zero (total (naturals ss)) (number (total (naturals ss))) e value p in
      rw (le-ltb most_frames (total (naturals ss)) small, not-one-zero e, t, ne_eqb (size ss) 0 (λ q. omega arith))
