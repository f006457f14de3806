-- What a list that is read leaves of the lent one.
use Rattle.std.specs.Prelude.{ℕ, ◌≤◌, ◌≡◌, Option, Some, None, List, length, drop}

-- a list that came whole had room, and what is beyond it is as it was
abbrev pub Front : {A : Type 0} → Option ℕ → List A → List A → Type 0
Front (Some n) before after = (n ≤ length before) × (drop n after ≡ drop n before)
Front None before after = Unit {0}
