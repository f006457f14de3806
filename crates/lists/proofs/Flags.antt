-- Laws of yes and no as numbers.
use mathlib.Core.Path.{◌≡◌, refl, sym, ap}
use mathlib.Core.Bool.{Bool, true, false, cond, ◌&&◌, ◌||◌, true≢false}
use mathlib.Core.List.{List, [], ◌∷◌, map}
use mathlib.Core.Logic.{◌⊎◌, inl, inr}
use Prim.Native.Nat.{ℕ, zero, suc}
use Rattle.lists.specs.Flags.{flag, is_on}

-- both of two tests hold, and neither does
pub both : (a b : Bool) → a && b ≡ true → (a ≡ true) × (b ≡ true)
both true b e = (refl, e)
both false b e = absurd (true≢false (sym e))

pub neither : (a b : Bool) → a || b ≡ false → (a ≡ false) × (b ≡ false)
neither true b e = absurd (true≢false e)
neither false b e = (refl, e)

-- one of two does
pub one_of : (a b : Bool) → a || b ≡ true → (a ≡ true) ⊎ (b ≡ true)
one_of true b e = inl refl
one_of false b e = inr e

-- a test holds or fails
pub by_test : {P : Type 0} (b : Bool) → (b ≡ true → P) → (b ≡ false → P) → P
by_test true f g = f refl
by_test false f g = g refl

-- what two have, the one that a test chooses has
pub either : {A : Type 0} (P : A → Type 0) (b : Bool) (x y : A) → P x → P y → P (cond b x y)
either P true x y p q = p
either P false x y p q = q

pub on_true : (y : ℕ) → (y ≡ 0 → ⊥) → is_on y ≡ true
on_true zero h = absurd (h refl)
on_true (suc y) h = refl

pub off_zero : (y : ℕ) → is_on y ≡ false → y ≡ 0
off_zero zero h = refl
off_zero (suc y) h = absurd (true≢false h)

pub flag-back : (b : Bool) → is_on (flag b) ≡ b
flag-back true = refl
flag-back false = refl

pub flags-back : (bs : List Bool) → map is_on (map flag bs) ≡ bs
flags-back [] = refl
flags-back (true ∷ bs) = ap (λ (l : List Bool). true ∷ l) (flags-back bs)
flags-back (false ∷ bs) = ap (λ (l : List Bool). false ∷ l) (flags-back bs)
