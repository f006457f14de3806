-- Laws of how a slot is written: a set, and zeros behind it.
use mathlib.Core.Path.{◌≡◌, refl, sym, ap, ◌∙◌}
use mathlib.Core.List.{List, [], ◌∷◌, ◌++◌}
use Prim.Native.Nat.{ℕ, zero, suc, ◌+◌, ◌-◌, ◌*◌, ◌≤◌, min}
use native.Mathlib.Omega.{arith}
use borrow.Rule.Slice.PartMut.{mid_of, put_mid}
use lib.ListN.{length, take, replicate, length-take}
use lib.Seq.{sets, length-sets}
use lib.Ieee.{Float}
use Rattle.lists.specs.Sizes.{most_windows, most_set_taps}
use Rattle.lists.proofs.Parts.{take_min}
use Rattle.lists.proofs.Regions.{lent_stored, lent_filled}
use Rattle.lists.proofs.Stores.{sets_behind}
use Rattle.floats.specs.Numbers.{nought}
use Rattle.houses.specs.Slots.{table}
use Rattle.houses.specs.Changes.{padded, holding, put_in}

module _ {A : Type 0} where
  -- a front of the same number over and over
  take_same : (n m : ℕ) (z : A) → n ≤ m → take n (replicate m z) ≡ replicate n z
  take_same zero m z h = refl
  take_same (suc n) zero z h = absurd (omega arith)
  take_same (suc n) (suc m) z h = ap (λ (l : List A). z ∷ l) (take_same n m z (omega arith))

  -- n numbers by how many are given
  padded_by : (n m : ℕ) (z : A) (xs : List A) → n ≤ m → take n xs ++ replicate (n - length xs) z ≡ take n (xs ++ replicate m z)
  padded_by zero m z xs h = let e : 0 - length xs ≡ 0 = omega arith in ap (λ (k : ℕ). replicate k z) e
  padded_by (suc n) m z [] h = let e : suc n - 0 ≡ suc n = omega arith in ap (λ (k : ℕ). replicate k z) e ∙ sym (take_same (suc n) m z h)
  padded_by (suc n) m z (x ∷ xs) h =
      let e : suc n - suc (length xs) ≡ n - length xs = omega arith in
      ap (λ (k : ℕ). x ∷ (take n xs ++ replicate k z)) e ∙ ap (λ (l : List A). x ∷ l) (padded_by n m z xs (omega arith))

  -- a part is lent for the numbers that are given, and what is left of it for z
  module _ (l given w w' : List A) (b n k : ℕ) (z : A) (q : k ≡ min n (length given)) (room : b + n ≤ length l) (f : w ≡ sets (mid_of b (b + n - b) l) 0 (take k given)) where
    first : put_mid b (b + n - b) l w ≡ sets l b (take k given)
    first = lent_stored b (b + n) l w (take k given) (omega arith) room (omega (arith, length-take k given)) f

    pub padded-put : w' ≡ sets (mid_of (b + k) (b + n - (b + k)) (put_mid b (b + n - b) l w)) 0 (replicate (n - k) z) → put_mid (b + k) (b + n - (b + k)) (put_mid b (b + n - b) l w) w' ≡ sets l b (padded n z given)
    padded-put g =
        let long : b + n ≤ length (put_mid b (b + n - b) l w) = rw (first, length-sets) room in
        let t : take k given ≡ take n given = ap (λ (m : ℕ). take m given) q ∙ take_min n given in
        let r : n - k ≡ n - length given = omega arith in
        let p : take k given ++ replicate (n - k) z ≡ padded n z given = rw (t, r) (padded_by n n z given (omega arith)) in
        lent_filled (put_mid b (b + n - b) l w) w' (b + k) (b + n) (n - k) z (omega arith) long g
        ∙ sets_behind (take k given) (replicate (n - k) z) l (put_mid b (b + n - b) l w) b (b + k) first (omega (arith, length-take k given))
        ∙ ap (sets l b) p

-- a slot has this set
module _ (ws ws' : List ℕ) (cs cs' : List Float) (s : ℕ) where
  pub set-put : (set-ws : List ℕ) (set-cs : List Float) → ws' ≡ sets ws (s * most_windows) (padded most_windows 0 set-ws) → cs' ≡ sets cs (s * most_set_taps) (padded most_set_taps nought set-cs)
      → table ws' cs' ≡ put_in s (holding set-ws set-cs) (table ws cs)
  unfolding put_in
  set-put set-ws set-cs e f = rw (e, f)
