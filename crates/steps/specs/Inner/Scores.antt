-- The order of the states, by whole numbers: which of two the rule takes is which of their scores is less. No public call's promise names any of it.
use Rattle.std.specs.Prelude.{Bool, cond, List, ℕ, ◌+◌, ◌*◌, ltb, get_or, Float}
use Rattle.std.specs.Float.{binary64}
use Rattle.std.specs.Float.Ieee.{to_bits}
use Rattle.lists.specs.Sizes.{most_states}
use Rattle.steps.specs.declared.costs.Entry.{Entry}
use Rattle.steps.specs.Steps.{States, state_at, Key, key_of}
use Rattle.steps.specs.Steps.Key.{Fixed, Cost}

-- a key as a number: costs have no sign, and so they come as their bit patterns do; a fixed state comes after all of them
abbrev pub rank : Key → ℕ
rank Fixed = 0xffff_ffff_ffff_ffff
rank (Cost x) = to_bits binary64 x

-- the key of the state at a place
unfoldable pub key_at : Bool → Float → States → List ℕ → ℕ → ℕ
key_at up rho ss ds p = rank (key_of up rho (state_at ss p) (get_or ds p 0))

-- RULES, Durations: of equal costs the first state is taken: the key decides, and where keys are equal the place
abbrev pub score : ℕ → ℕ → ℕ
score key place = key * most_states + place

-- the scores of places with these keys, any number a place
abbrev pub scores : (ℕ → ℕ) → ℕ → ℕ
scores K p = score (K p) p

-- a place with its key
abbrev pub keyed : (ℕ → ℕ) → ℕ → Entry
keyed K p = record { place = p; key = K p }

-- of two entries the one of the lesser score
abbrev pub sooner_of : Entry → Entry → Entry
sooner_of a b = cond (ltb (score b.key b.place) (score a.key a.place)) b a
