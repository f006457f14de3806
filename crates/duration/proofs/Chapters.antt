-- What no drift comes to over many labels.
use mathlib.Core.Path.{◌≡◌, refl, sym, ap, ◌∙◌}
use mathlib.Core.Bool.{true, false, cond}
use mathlib.Core.Logic.{⊎_elim, ◌↔◌}
use mathlib.Core.List.{List}
use Prim.Native.Nat.{ℕ, zero, suc, ◌+◌, ◌-◌, ◌*◌, ◌^◌, ◌≤◌, ◌<◌, max}
use native.Mathlib.Nat.{le_of_lt, lt_of_le_of_lt, lt_of_mul-lt-mul_right}
use native.Mathlib.Omega.{arith}
use lib.Dec.{T}
use lib.ListN.{length, get_or}
use lib.Ieee.{Float, nan, binary64, fits, of_bits, le}
use lib.Ieee.Positive.{num, den, den_pos, value→cross}
use Rattle.lists.specs.Totals.{gap}
use Rattle.lists.proofs.Numbers.{le_or_lt}
use Rattle.floats.specs.Rounding.{nearest_half}
use Rattle.floats.specs.Numbers.{nought, number}
use Rattle.floats.proofs.Differences.{number-value, exact-less}
use Rattle.floats.proofs.Halves.{half_same, half-less, half_few}
use Rattle.duration.specs.Align.{target_of}
use Rattle.duration.specs.Drift.{Fraction, HalvesUp, end_rounded, OnTime, closed_before, up_to, frames_before, group_least, total_at, NoDrift, PartEnd}
use Rattle.duration.specs.Drift.PartEnd.{ahead, behind}

-- ---- many labels

module _ (k : ℕ) (ends : List Float) (ls ds : List ℕ) (o : NoDrift k ends ls ds) where
  -- With room at a label, twice the distance of its end, as a fraction, and the total is at most 1.
  pub half_a_frame : (i : ℕ) → i < length ends → le nought (get_or ends i nan) ≡ true → group_least k ends ls i < target_of (get_or ends i nan) (frames_before k ends ds i)
      → (a : ℕ) × ((c : ℕ) × (Fraction (get_or ends i nan) a c × (2 * gap (total_at k ds i * c) a ≤ c)))
  half_a_frame i h at b = let r = (o i h at).right b in (num (get_or ends i nan), (den (get_or ends i nan), (r.fraction, r.near _ _ r.fraction)))

  -- Room, over whole numbers.
  pub right_with_room : (i : ℕ) → i < length ends → le nought (get_or ends i nan) ≡ true → frames_before k ends ds i + group_least k ends ls i < end_rounded (get_or ends i nan) → HalvesUp (get_or ends i nan) (total_at k ds i)
  right_with_room i h at b = let w = o i h at in w.right (w.room.1 b)

  -- And it is seen in the output: with room, and only then, a group gets more than the sum of its shortest.
  pub room-seen : (i : ℕ) → i < length ends → le nought (get_or ends i nan) ≡ true
      → (group_least k ends ls i < target_of (get_or ends i nan) (frames_before k ends ds i)) ↔ (frames_before k ends ds i + group_least k ends ls i < total_at k ds i)
  room-seen i h at =
      let w = o i h at in
      let n : ℕ = group_least k ends ls i in
      let t : ℕ = target_of (get_or ends i nan) (frames_before k ends ds i) in
      (λ b. omega (arith, w.room.0 b, w.larger), λ b. ⊎_elim (λ (q : t ≤ n). absurd (omega (arith, w.short q))) (λ (q : n < t). q) (le_or_lt t n))

  -- Without room at a label the total is exactly that before its group and the sum of its shortest; and at any later label with room it is right again.
  pub right_again : (i j : ℕ) → i < j → j < length ends → le nought (get_or ends i nan) ≡ true → le nought (get_or ends j nan) ≡ true
      → target_of (get_or ends i nan) (frames_before k ends ds i) ≤ group_least k ends ls i
      → group_least k ends ls j < target_of (get_or ends j nan) (frames_before k ends ds j)
      → (total_at k ds i ≡ frames_before k ends ds i + group_least k ends ls i) × HalvesUp (get_or ends j nan) (total_at k ds j)
  right_again i j l h p q a b = ((o i (omega arith) p).short a, (o j h q).right b)

-- However labels are fitted: any durations without drift, over the same ends and with the same shortest, have the same totals there.
module _ (k : ℕ) (ends : List Float) (ls ds es : List ℕ) (o : NoDrift k ends ls ds) (p : NoDrift k ends ls es) where
  next-same : (i : ℕ) → i < length ends → le nought (get_or ends i nan) ≡ true → frames_before k ends ds i ≡ frames_before k ends es i → total_at k ds i ≡ total_at k es i
  next-same i h at e = (o i h at).larger ∙ ap (λ (n : ℕ). max (end_rounded (get_or ends i nan)) (n + group_least k ends ls i)) e ∙ sym (p i h at).larger

  before_same : (i : ℕ) → i ≤ length ends → frames_before k ends ds i ≡ frames_before k ends es i
  unfolding closed_before
  before_same zero h = refl
  before_same (suc i) h =
      (elim (le nought (get_or ends i nan)) as (λ s. le nought (get_or ends i nan) ≡ s → up_to (cond s (suc i * k) (closed_before k ends i)) ds ≡ up_to (cond s (suc i * k) (closed_before k ends i)) es) [
        | true ↦ λ at. next-same i h at (before_same i (omega arith))
        | false ↦ λ at. before_same i (omega arith)
      ])
      refl

  pub totals_same : (i : ℕ) → i < length ends → le nought (get_or ends i nan) ≡ true → total_at k ds i ≡ total_at k es i
  totals_same i h at = next-same i h at (before_same i (omega arith))

-- ---- a chapter in parts

nought-rounded : end_rounded nought ≡ 0
unfolding of_bits nearest_half
nought-rounded = refl

-- it is rounded to what is left of the chapter's
left_of : (x : Float) (frames : ℕ) (y : Float) → T (fits binary64 x) → PartEnd x frames y → end_rounded y ≡ end_rounded x - frames
left_of x frames y held (ahead a c q small under) =
    let C = q.some in
    let few : frames ≤ 2 ^ 53 = le_of_lt (lt_of_mul-lt-mul_right c (lt_of_le_of_lt under small)) in
    let v = exact-less x (number frames) a c frames held C q.is (number-value frames few) small under in
    half_same (num y) (den y) (a - frames * c) c (den_pos y) C (value→cross y (a - frames * c) c v)
    ∙ half-less a c frames C under
    ∙ ap (λ (n : ℕ). n - frames) (half_same a c (num x) (den x) C (den_pos x) (sym (value→cross x a c q.is)))
left_of x frames y held (behind h) = omega (arith, nought-rounded, half_few frames (num x) (den x) (den_pos x) (le_of_lt h))

-- A total that is on time in a part is, with the frames of all parts before it, what it would be in the whole chapter.
pub part-total : (x y : Float) (frames before low reached : ℕ) → T (fits binary64 x) → PartEnd x frames y → OnTime y before low reached → frames + reached ≡ max (end_rounded x) (frames + before + low)
part-total x y frames before low reached held e o = omega (arith, left_of x frames y held e, o.larger)
