-- Being on time at one end: what a group's target is, and the total that is reached.
use mathlib.Core.Path.{◌≡◌, sym, ap, ◌∙◌, subst}
use mathlib.Core.Bool.{Bool, true, false, true≢false}
use mathlib.Core.Logic.{⊎_elim}
use Prim.Native.Nat.{ℕ, ◌+◌, ◌-◌, ◌*◌, ◌≤◌, ◌<◌, max}
use native.Mathlib.Nat.{le_trans}
use native.Mathlib.Omega.{arith}
use lib.IntN.{ℤ}
use lib.Dec.{T, lit≤}
use lib.Ieee.{Float, nan, inf, fin, binary64, fits, le, of_bits}
use lib.Ieee.Exact.{HasValue}
use lib.Ieee.Positive.{num, den, den_pos, value→cross}
use lib.Ieee.Scale.{finite}
use Rattle.lists.specs.Sizes.{most_frames}
use Rattle.lists.specs.Totals.{gap}
use Rattle.lists.proofs.Numbers.{le_or_lt}
use Rattle.floats.specs.Rounding.{nearest_half, frames_of}
use Rattle.floats.specs.Numbers.{nought, number}
use Rattle.floats.proofs.Differences.{number-value}
use Rattle.floats.proofs.Halves.{half_same, frames}
use Rattle.floats.proofs.Nearest.{nearest-half}
use Rattle.floats.proofs.TakenOff.{rounded-less, own-fraction, endless-less}
use Rattle.duration.specs.Align.{target_of}
use Rattle.duration.specs.Drift.{Fraction, HalvesUp, end_rounded, OnTime}

-- a target is the end rounded, less those frames, and at least 1
target-rounded : (s : Bool) (m : ℕ) (e : ℤ) (k : ℕ) → T (fits binary64 (fin s m e)) → k ≤ most_frames → le nought (fin s m e) ≡ true → target_of (fin s m e) k ≡ frames (end_rounded (fin s m e) - k)
target-rounded s m e k F few at = rounded-less (fin s m e) (number k) k F tt at (number-value k (le_trans few (lit≤ tt))) few

-- and one that is not refused is of no infinity
target_is : (x : Float) (k : ℕ) → T (fits binary64 x) → k ≤ most_frames → le nought x ≡ true → target_of x k ≤ most_frames → T (finite x) × (target_of x k ≡ frames (end_rounded x - k))
unfolding le of_bits
target_is nan k F few at h = absurd (true≢false (sym at))
target_is (inf true) k F few at h = absurd (true≢false (sym at))
target_is (inf false) k F few at h = absurd (omega (arith, endless-less (number k) k (number-value k (le_trans few (lit≤ tt)))))
target_is (fin s m e) k F few at h = (tt, target-rounded s m e k F few at)

-- what a target comes to, from the end rounded
above_1 : (t h k : ℕ) → t ≡ frames (h - k) → 1 < t → t ≤ most_frames → k + t ≡ h
unfolding frames_of
above_1 t h k e a b = omega arith

at_most : (t h k n : ℕ) → t ≡ frames (h - k) → t ≤ n → n ≤ most_frames → h ≤ k + n
unfolding frames_of
at_most t h k n e a b = omega arith

-- whichever fraction an end is written as, it is rounded to the same number
pub halves-up : (x : Float) (n : ℕ) → HasValue x false (num x) (den x) → n ≡ end_rounded x → HalvesUp x n
halves-up x n own e =
    let same : (a c : ℕ) → Fraction x a c → n ≡ nearest_half a c = λ a c q. e ∙ half_same (num x) (den x) a c (den_pos x) q.some (value→cross x a c q.is) in
    record {
      fraction = record { some = den_pos x; is = own };
      rounded = same;
      near = λ a c q. subst (λ (z : ℕ). 2 * gap (z * c) a ≤ c) (sym (same a c q)) (nearest-half a c q.some).near;
    }

-- a group whose shortest sum to n, and that gets `more` frames: its target where that is above n, and else n
module _ (x : Float) (k n more : ℕ) (F : T (fits binary64 x)) (at : le nought x ≡ true) (few : k + more ≤ most_frames) (some : 0 < n)
    (fit : n < target_of x k → more ≡ target_of x k) (short : target_of x k ≤ n → more ≡ n) where
  rounded-up : n < target_of x k → HalvesUp x (k + more) × (k + more ≡ end_rounded x)
  rounded-up h =
      let m = fit h in
      let d = target_is x k F (omega arith) at (omega arith) in
      let e : k + more ≡ end_rounded x = rw m (above_1 (target_of x k) (end_rounded x) k d.1 (omega arith) (omega arith)) in
      (halves-up x (k + more) (own-fraction x d.0 at (omega arith)) e, e)

  -- the other way
  not_above : target_of x k ≤ n → end_rounded x ≤ k + n
  not_above h =
      let m = short h in
      at_most (target_of x k) (end_rounded x) k n (target_is x k F (omega arith) at (omega arith)).1 h (omega arith)

  pub on_time : OnTime x k n (k + more)
  on_time =
      record {
        room = (λ h. omega (arith, fit h, (rounded-up h).1), λ h. ⊎_elim (λ (q : target_of x k ≤ n). absurd (omega (arith, not_above q))) (λ (q : n < target_of x k). q) (le_or_lt (target_of x k) n));
        right = λ h. (rounded-up h).0;
        short = λ h. ap (λ (z : ℕ). k + z) (short h);
        larger = ⊎_elim
            (λ (h : target_of x k ≤ n). (let z : k + more ≡ max (end_rounded x) (k + n) = omega (arith, short h, not_above h) in z))
            (λ (h : n < target_of x k). (let z : k + more ≡ max (end_rounded x) (k + n) = omega (arith, fit h, (rounded-up h).1) in z))
            (le_or_lt (target_of x k) n);
      }
