-- Worked cases, computed from the definitions.
use Rattle.std.specs.Prelude.{◌≡◌, refl, List, [], ◌∷◌, ℕ, ◌%◌, ◌^◌}
use Rattle.lists.specs.Totals.{total}
use Rattle.spool.specs.Place.{place_of}
use Rattle.spool.specs.Excerpt.{excerpt_of}

-- RULES, Places: with 40 components a frame, two places just past 32 bits
around_4_gib : (place_of 13421772 32 40 ≡ 4294967296) × (place_of 13421773 0 40 ≡ 4294967360)
around_4_gib = (refl, refl)

-- 32 bits would give them the places of frame 0, components 0 and 8
wrapped : (place_of 13421772 32 40 % 2 ^ 32 ≡ place_of 0 0 40) × (place_of 13421773 0 40 % 2 ^ 32 ≡ place_of 0 8 40)
wrapped = (refl, refl)

-- three states of 2, 0 and 1 frames, two numbers a frame
durations : List ℕ
durations = 2 ∷ 0 ∷ 1 ∷ []

trajectory : List ℕ
trajectory = 10 ∷ 11 ∷ 20 ∷ 21 ∷ 30 ∷ 31 ∷ []

excerpts : (excerpt_of trajectory durations 2 0 ≡ 10 ∷ 11 ∷ 20 ∷ 21 ∷ []) × (excerpt_of trajectory durations 2 1 ≡ []) × (excerpt_of trajectory durations 2 2 ≡ 30 ∷ 31 ∷ [])
unfolding durations trajectory excerpt_of total
excerpts = (refl, refl, refl)
