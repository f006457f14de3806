-- A state's items become its frames', and those of voiced frames are closed up and filled back.
use Rattle.std.specs.Prelude.{Bool, true, false, List, [], ◌∷◌, ◌++◌, ℕ, suc, replicate}

module _ {A : Type 0} where
  -- RULES, Mask: each state's item once for each of its frames, and none for a duration of 0 (`duration` of `mod.rs`)
  unfoldable pub expand : List ℕ → List A → List A
  expand [] xs = []
  expand (d ∷ ds) [] = []
  expand (d ∷ ds) (x ∷ xs) = replicate d x ++ expand ds xs

  -- the items whose flag is on, in order; RULES, Mask: the voiced frames closed up (`filter_by` of `mod.rs`)
  unfoldable pub select : List Bool → List A → List A
  select [] xs = []
  select (b ∷ bs) [] = []
  select (true ∷ bs) (x ∷ xs) = x ∷ select bs xs
  select (false ∷ bs) (x ∷ xs) = select bs xs

  -- RULES, Mask: the voiced frames get their values in order, the others the fill number (`fill` of `mask.rs`)
  unfoldable pub fill : A → List Bool → List A → List A
  fill none [] xs = []
  fill none (false ∷ bs) xs = none ∷ fill none bs xs
  fill none (true ∷ bs) [] = none ∷ fill none bs []
  fill none (true ∷ bs) (x ∷ xs) = x ∷ fill none bs xs

-- how many are on: RULES, Mask: how many frames are voiced
unfoldable pub count : List Bool → ℕ
count [] = 0
count (true ∷ bs) = suc (count bs)
count (false ∷ bs) = count bs
