-- How far a voiced frame stands from the ends of its run, and what that does to a window's inverse variances.
use Rattle.std.specs.Prelude.{Bool, true, false, cond, ◌||◌, List, [], ◌∷◌, ℕ, suc, ltb, Float}
use Rattle.floats.specs.Numbers.{nought}

-- how many frames from here on are voiced without a gap
unfoldable pub ahead : List Bool → ℕ
ahead [] = 0
ahead (true ∷ bs) = suc (ahead bs)
ahead (false ∷ bs) = 0

-- RULES, Mask: a voiced frame's left distance is how many voiced frames stand directly before it, with l of them before the first; an unvoiced frame has 0
unfoldable pub lefts : ℕ → List Bool → List ℕ
lefts l [] = []
lefts l (true ∷ bs) = l ∷ lefts (suc l) bs
lefts l (false ∷ bs) = 0 ∷ lefts 0 bs

-- RULES, Mask: its right distance is how many stand directly after it; an unvoiced frame has 0
unfoldable pub rights : List Bool → List ℕ
unfolding ahead
rights [] = []
rights (true ∷ bs) = ahead bs ∷ rights bs
rights (false ∷ bs) = 0 ∷ rights bs

-- RULES, Mask: a frame's inverse variance v becomes 0 where its left distance l or its right distance r is below what the window reaches
abbrev pub shut : ℕ → ℕ → ℕ → ℕ → Float → Float
shut before after l r v = cond (ltb l before || ltb r after) nought v

-- and those of all frames, each by its own distances
unfoldable pub shut_all : ℕ → ℕ → List ℕ → List ℕ → List Float → List Float
shut_all before after [] rs vs = []
shut_all before after (l ∷ ls) [] vs = []
shut_all before after (l ∷ ls) (r ∷ rs) [] = []
shut_all before after (l ∷ ls) (r ∷ rs) (v ∷ vs) = shut before after l r v ∷ shut_all before after ls rs vs
