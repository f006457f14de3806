-- The part of a trajectory that one state has.
use Rattle.std.specs.Prelude.{List, ℕ, ◌*◌, take, drop, get_or}
use Rattle.lists.specs.Totals.{total}
use Rattle.spool.specs.Place.{number_of}

-- the state's first frame, which is how many frames the states before it have
abbrev pub first_of : List ℕ → ℕ → ℕ
first_of durations state = total (take state durations)

-- where its first number stands: component 0 of that frame
abbrev pub excerpt_start : List ℕ → ℕ → ℕ → ℕ
excerpt_start durations v state = number_of (first_of durations state) 0 v

-- how many numbers it has: v a frame
abbrev pub excerpt_count : List ℕ → ℕ → ℕ → ℕ
excerpt_count durations v state = get_or durations state 0 * v

-- RULES, Places: a state's excerpt is the part of the trajectory that holds its frames
unfoldable pub excerpt_of : {A : Type 0} → List A → List ℕ → ℕ → ℕ → List A
excerpt_of trajectory durations v state = take (excerpt_count durations v state) (drop (excerpt_start durations v state) trajectory)
