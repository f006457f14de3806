-- Durations and a tree's places in one list: what is stored, read, and left when the places go.
use mathlib.Core.Path.{◌≡◌, refl, ap, ◌∙◌}
use mathlib.Core.List.{List, [], ◌∷◌, ◌++◌, map}
use Prim.Native.Nat.{ℕ, zero, suc, ◌+◌, ◌-◌, ◌*◌, ◌/◌, ◌%◌, ◌≤◌, ◌<◌}
use native.Mathlib.Numerals.{add-one}
use native.Mathlib.Omega.{arith}
use lib.ListN.{length, get_or, set, take, drop, length-set, length-map, drop_of_length-le, get_or-map}
use lib.Seq.{map-set_same, drop-cons, drop-set-lt}
use borrow.Author.Tests.{lt-ltb, le-ltb}
use Rattle.lists.specs.Sizes.{most_frames}
use Rattle.lists.specs.Totals.{total}
use Rattle.lists.proofs.Fills.{stored, finished}
use Rattle.steps.specs.Inner.Tree.{node}
use Rattle.steps.specs.Inner.Pack.{width, lows, highs}
use Rattle.steps.specs.Inner.Asked.{PutsDuration, PutsPlace}

map-set : (f : ℕ → ℕ) (w : List ℕ) (i x : ℕ) → map f (set w i x) ≡ set (map f w) i (f x)
map-set f [] i x = refl
map-set f (y ∷ ys) zero x = refl
map-set f (y ∷ ys) (suc i) x = ap (λ (zs : List ℕ). f y ∷ zs) (map-set f ys i x)

module _ (w : List ℕ) where
  pub length-lows : length (lows w) ≡ length w
  unfolding lows
  length-lows = length-map w (λ (x : ℕ). x % width)

  pub length-highs : length (highs w) ≡ length w
  unfolding highs
  length-highs = length-map w (λ (x : ℕ). x / width)

  pub get_or-lows : (i : ℕ) → get_or (lows w) i 0 ≡ get_or w i 0 % width
  unfolding lows
  get_or-lows i = get_or-map (λ (x : ℕ). x % width) w i 0

  get_or-highs : (i : ℕ) → get_or (highs w) i 0 ≡ get_or w i 0 / width
  unfolding highs
  get_or-highs i = get_or-map (λ (x : ℕ). x / width) w i 0

  -- the place at a node
  pub inner_place : (i : ℕ) → i < length w → get_or w i 0 / width ≡ node (highs w) i
  unfolding node
  inner_place i h = rw (length-highs, lt-ltb i (length w) h, get_or-highs i)

  pub leaf-place : (i : ℕ) → length w ≤ i → i - length w ≡ node (highs w) i
  unfolding node
  leaf-place i h = rw (length-highs, le-ltb i (length w) h)

  pub puts_duration : (p d : ℕ) → d < width → PutsDuration w p d (set w p (get_or w p 0 / width * width + d))
  unfolding lows highs
  puts_duration p d h =
      let x : ℕ = get_or w p 0 in
      let low : (x / width * width + d) % width ≡ d = omega arith in
      let high : (x / width * width + d) / width ≡ x / width = omega arith in
      record { durations = map-set (λ (y : ℕ). y % width) w p (x / width * width + d) ∙ ap (set (lows w) p) low; tree = map-set_same (λ (y : ℕ). y / width) w p (x / width * width + d) 0 high }

  pub puts_place : (i p : ℕ) → PutsPlace w i p (set w i (p * width + get_or w i 0 % width))
  unfolding lows highs
  puts_place i p =
      let x : ℕ = get_or w i 0 in
      let low : (p * width + x % width) % width ≡ x % width = omega arith in
      let high : (p * width + x % width) / width ≡ p = omega arith in
      record { durations = map-set_same (λ (y : ℕ). y % width) w i (p * width + x % width) 0 low; tree = map-set (λ (y : ℕ). y / width) w i (p * width + x % width) ∙ ap (set (highs w) i) high }

-- durations alone are packed as they are
pub lows-plain : (w : List ℕ) → total w ≤ most_frames → lows w ≡ w
unfolding lows total
lows-plain [] h = refl
lows-plain (x ∷ xs) h =
    let e : x % width ≡ x = omega arith in
    let r : lows xs ≡ xs = lows-plain xs (omega arith) in
    cc

-- ---- the loop that takes the places off: what is done, and the durations of the rest

pub record Unpacking (start w : List ℕ) (i : ℕ) : Type 0 where
  pub long : length w ≡ length start
  pub rest : take i w ++ lows (drop i w) ≡ lows start

module _ (start w : List ℕ) (i : ℕ) (u : Unpacking start w i) where
  pub unpacking-next : i < length w → Unpacking start (set w i (get_or w i 0 % width)) (i + 1)
  unfolding lows
  unpacking-next h =
      let v : ℕ = get_or w i 0 % width in
      let e : take i w ++ (v ∷ lows (drop (suc i) w)) ≡ lows start = rw (drop-cons w i 0 h) at u.rest in
      record {
        long = length-set w i v ∙ u.long;
        rest = rw (add-one, drop-set-lt (suc i) w i v (omega arith)) (rw add-one at (stored w i v (lows (drop (suc i) w)) (lows start) h e));
      }

  pub unpacked : length w ≤ i → w ≡ lows start
  unfolding lows
  unpacked h = finished w i (lows (drop i w)) (lows start) h (ap lows (drop_of_length-le w h)) u.rest

pub unpacking : (w : List ℕ) → Unpacking w w 0
unpacking w = record { long = refl; rest = refl }
