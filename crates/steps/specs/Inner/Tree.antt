-- A tournament over places in a list of as many numbers: the inner nodes are 1 to n - 1, the leaves n to 2 n - 1 stand for the places in their order, and
-- the children of i are 2 i and 2 i + 1. Each inner node holds the place of the lesser of its two. S gives the places' scores, any numbers.
use Rattle.std.specs.Prelude.{◌≡◌, cond, List, ◌⊎◌, ℕ, ◌+◌, ◌-◌, ◌*◌, ◌/◌, ◌≤◌, ◌<◌, ltb, length, get_or}

-- the place at a node, inner or leaf
unfoldable pub node : List ℕ → ℕ → ℕ
node t i = cond (ltb i (length t)) (get_or t i 0) (i - length t)

-- v is the lesser of a and b
pub record Lesser (S : ℕ → ℕ) (a b v : ℕ) : Type 0 where
  pub one : (v ≡ a) ⊎ (v ≡ b)
  pub left : S v ≤ S a
  pub right : S v ≤ S b

-- the inner node i holds the lesser of its two
abbrev pub Won : (ℕ → ℕ) → List ℕ → ℕ → Type 0
Won S t i = Lesser S (node t (2 * i)) (node t (2 * i + 1)) (get_or t i 0)

-- the inner nodes from i on hold places
abbrev pub Within : List ℕ → ℕ → Type 0
Within t i = (j : ℕ) → i ≤ j → j < length t → get_or t j 0 < length t

-- and those of the lesser of their two
pub record Kept (S : ℕ → ℕ) (t : List ℕ) (i : ℕ) : Type 0 where
  pub within : Within t i
  pub won : (j : ℕ) → i ≤ j → j < length t → Won S t j

-- the node j is i, or stands above it
pub data On : ℕ → ℕ → Type 0 where
  here : {j i : ℕ} → j ≡ i → On j i
  over : {j k i : ℕ} → On k i → j ≡ k / 2 → On j i

-- all inner nodes do, but for those from i up
pub record Path (S : ℕ → ℕ) (t : List ℕ) (i : ℕ) : Type 0 where
  pub within : Within t 1
  pub won : (j : ℕ) → 1 ≤ j → j < length t → Won S t j ⊎ On j i
