-- Laws of steps in order that add to a float, up to the sign of zeros.
use mathlib.Core.Path.{◌≡◌, refl, ◌∙◌}
use mathlib.Core.Bool.{Bool, true, false, cond}
use Prim.Native.Nat.{ℕ, zero, suc, ◌+◌, ◌<◌}
use native.Mathlib.Omega.{arith}
use lib.Dec.{T}
use lib.Ieee.{Float, binary64, add, fits}
use lib.Ieee.Fits.{add-fits}
use Rattle.lists.specs.Build.{over}
use Rattle.lists.proofs.Orders.{over-joined}
use Rattle.floats.specs.Signs.{Same, Zero}
use Rattle.floats.proofs.Signs.{add_same, add-zero-same}

-- two numbers of an f64 that are the same
pub record Alike (y z : Float) : Type 0 where
  pub same : Same y z
  pub held : T (fits binary64 y)
  pub held' : T (fits binary64 z)

-- a step does as another does, and one does nothing
abbrev pub Does : (Float → Float) → (Float → Float) → Type 0
Does g h = (y z : Float) → Alike y z → Alike (g y) (h z)

abbrev pub Idle : (Float → Float) → Type 0
Idle g = Does g (λ y. y)

-- ---- steps in order

module _ (g : ℕ → Float → Float) where
  -- steps that each do as others, and steps that each do nothing
  pub all_do : (h : ℕ → Float → Float) (n : ℕ) → ((f : ℕ) → f < n → Does (g f) (h f)) → Does (over g n) (over h n)
  unfolding over
  all_do h zero d y z l = l
  all_do h (suc n) d y z l = d n (omega arith) (over g n y) (over h n z) (all_do h n (λ f b. d f (omega arith)) y z l)

  pub all-idle : (n : ℕ) → ((f : ℕ) → f < n → Idle (g f)) → Idle (over g n)
  unfolding over
  all-idle zero d y z l = l
  all-idle (suc n) d y z l = d n (omega arith) (over g n y) z (all-idle n (λ f b. d f (omega arith)) y z l)

  -- n steps and k behind them
  pub both_do : (n k : ℕ) (p q : Float → Float) → Does (over g n) p → Does (over (λ f. g (n + f)) k) q → Does (over g (n + k)) (λ z. q (p z))
  both_do n k p q a b y z l = rw (over-joined g n k y) (b (over g n y) (p z) (a y z l))

-- ---- a step that adds v, unless one of two tests holds

abbrev pub adding : Bool → Bool → Float → Float → Float
adding a b v y = cond a y (cond b y (add binary64 y v))

pub adding_does : (a b : Bool) (v : Float) → Does (adding a b v) (adding a b v)
adding_does true b v y z l = l
adding_does false true v y z l = l
adding_does false false v y z l = record { same = add_same binary64 y z v v l.same refl; held = add-fits binary64 y v; held' = add-fits binary64 z v }

-- a zero adds nothing
pub adding-idle : (a b : Bool) (v : Float) → (a ≡ false → b ≡ false → Zero v) → Idle (adding a b v)
adding-idle true b v nothing y z l = l
adding-idle false true v nothing y z l = l
adding-idle false false v nothing y z l = record { same = add-zero-same binary64 y v l.held (nothing refl refl) ∙ l.same; held = add-fits binary64 y v; held' = l.held' }
