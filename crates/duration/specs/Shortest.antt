-- The shortest durations that are lent.
use Rattle.std.specs.Prelude.{Bool, false, ◌||◌, cond, List, [], ◌∷◌, ℕ, ltb, eqb}
use Rattle.lists.specs.Sizes.{most_frames}
use Rattle.lists.specs.Totals.{total}

-- RULES, Refusals: a shortest is 0
unfoldable pub any_none : List ℕ → Bool
any_none [] = false
any_none (l ∷ ls) = eqb l 0 || any_none ls

-- RULES, Refusals: or they come to more than 65,536 frames, all of them together
abbrev pub unfit : List ℕ → Bool
unfit ls = any_none ls || ltb most_frames (total ls)

-- RULES, Refusals: which is 15
unfoldable pub refusal_of_shortest : List ℕ → ℕ
refusal_of_shortest ls = cond (unfit ls) 15 0
