-- Laws of the strict order of floats.
use mathlib.Core.Path.{◌≡◌, refl}
use mathlib.Core.Bool.{Bool, true, false}
use Prim.Native.Nat.{ℕ, ◌*◌}
use native.Mathlib.Omega.{arith}
use borrow.Author.Tests.{le-ltb, ltb-true}
use lib.IntN.{ℤ}
use lib.Ieee.{Float, nan, inf, fin, up, down, below, lt}
use Rattle.floats.specs.Order.{abs_of}

-- of two numbers, each a sign and a size, one at most is below the other
below_asym : (s : Bool) (a : ℕ) (t : Bool) (b : ℕ) → below s a t b ≡ true → below t b s a ≡ false
below_asym false a false b h = le-ltb b a (omega (arith, ltb-true a b h))
below_asym false a true b h = absurd (let q : ◌≡◌ {A = ℕ} 0 1 = cc in omega arith)
below_asym true a false b h = refl
below_asym true a true b h = le-ltb a b (omega (arith, ltb-true b a h))

-- and so of two floats
pub lt_asym : (x y : Float) → lt x y ≡ true → lt y x ≡ false
unfolding lt
lt_asym nan y h = absurd (let q : ◌≡◌ {A = ℕ} 0 1 = cc in omega arith)
lt_asym (inf s) nan h = refl
lt_asym (inf false) (inf t) h = absurd (let q : ◌≡◌ {A = ℕ} 0 1 = cc in omega arith)
lt_asym (inf true) (inf true) h = refl
lt_asym (inf true) (inf false) h = refl
lt_asym (inf false) (fin t n d) h = absurd (let q : ◌≡◌ {A = ℕ} 0 1 = cc in omega arith)
lt_asym (inf true) (fin t n d) h = refl
lt_asym (fin s m e) nan h = refl
lt_asym (fin s m e) (inf true) h = absurd (let q : ◌≡◌ {A = ℕ} 0 1 = cc in omega arith)
lt_asym (fin s m e) (inf false) h = refl
lt_asym (fin s m e) (fin t n d) h = below_asym s (m * up e * down d) t (n * up d * down e) h

-- what is above a number that isn't negative is its own size
pub above-size : (m : ℕ) (e : ℤ) (v : Float) → lt (fin false m e) v ≡ true → abs_of v ≡ v
unfolding lt abs_of
above-size m e nan h = refl
above-size m e (inf true) h = absurd (let q : ◌≡◌ {A = ℕ} 0 1 = cc in omega arith)
above-size m e (inf false) h = refl
above-size m e (fin true n d) h = absurd (let q : ◌≡◌ {A = ℕ} 0 1 = cc in omega arith)
above-size m e (fin false n d) h = refl
