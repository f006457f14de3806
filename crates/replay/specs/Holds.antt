-- What a list must hold.
use Rattle.std.specs.Prelude.{ℕ, Bool, true, false, cond, List, [], ◌∷◌, eqb}

-- a whole number stands for itself
abbrev pub number : ℕ → ℕ
number n = n

-- whether a list begins with what is right, by the number of what stands at each place, and has the mark at every place beyond
unfoldable pub holds : {A : Type 0} → (A → ℕ) → List A → List A → A → Bool
holds f [] [] mark = true
holds f [] (y ∷ ys) mark = false
holds f (x ∷ xs) [] mark = cond (eqb (f x) (f mark)) (holds f xs [] mark) false
holds f (x ∷ xs) (y ∷ ys) mark = cond (eqb (f x) (f y)) (holds f xs ys mark) false
