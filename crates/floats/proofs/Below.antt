-- Below zero, at -0 and of NaN every count of frames is 1.
use mathlib.Core.Path.{◌≡◌, refl, ap, ◌∙◌}
use mathlib.Core.Bool.{Bool, true, false, cond}
use Prim.Native.Nat.{ℕ, zero, suc, ◌+◌, ◌*◌, ◌/◌, ◌^◌}
use lib.IntN.{ℤ, pos}
use lib.Dec.{ltb}
use lib.Count.{count_trailing_zeros}
use lib.Ieee.{Float, nan, inf, fin, binary64, prec, low, emax, up, down, minus, odd, units, round}
use lib.Ieee.Fits.{round_is}
use Rattle.floats.specs.Rounding.{nearest_half, to_integral, frames_of, rounded_of}
use Rattle.floats.proofs.Halves.{frames-below}

pub rounded-below : (m : ℕ) (e : ℤ) → rounded_of (fin true m e) ≡ 1
unfolding rounded_of to_integral
rounded-below m e = frames-below (nearest_half (m * up e) (down e))

pub nan-one : rounded_of nan ≡ 1
unfolding rounded_of to_integral frames_of
nan-one = refl

pub endless-below : rounded_of (inf true) ≡ 1
unfolding rounded_of to_integral frames_of
endless-below = refl

pub odd_below : (d q k l : ℕ) → rounded_of (odd d true q k l) ≡ 1
unfolding odd
odd_below d zero k l = rounded-below zero (pos zero)
odd_below d (suc q) k l = let t = count_trailing_zeros d (suc q) in rounded-below (suc q / 2 ^ t) (minus (k + t) l)

pub cond_below : (b : Bool) (x y : Float) → rounded_of x ≡ 1 → rounded_of y ≡ 1 → rounded_of (cond b x y) ≡ 1
cond_below true x y e f = e
cond_below false x y e f = f

units-below : (q k : ℕ) → rounded_of (units binary64 true q k) ≡ 1
unfolding units
units-below q k = cond_below (ltb (q * 2 ^ k) (2 ^ (low binary64 + suc (emax binary64)))) (odd (suc (prec binary64)) true q k (low binary64)) (inf true) (odd_below (suc (prec binary64)) q k (low binary64)) endless-below

-- so of every result of an operation that has its sign set
pub round-below : (a c : ℕ) → rounded_of (round binary64 true a c) ≡ 1
round-below a c = ap rounded_of (round_is binary64 true a c) ∙ units-below _ _
