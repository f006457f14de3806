-- The voiced runs of a mask.
use Rattle.std.specs.Prelude.{Bool, true, false, List, [], ◌∷◌, ℕ, suc, get_or}
use Rattle.voicing.specs.Boundaries.{ahead}
use Rattle.runs.specs.declared.Run.{Run}

-- RULES, One run alone: a run begins at each voiced frame that stands directly behind no other, and has the frames that are voiced from there on without a gap.
-- Those that begin at frame p or later, of a mask from there on; `inside` says whether the frame before p is voiced
unfoldable pub runs_from : Bool → ℕ → List Bool → List Run
unfolding ahead
runs_from inside p [] = []
runs_from inside p (false ∷ bs) = runs_from false (suc p) bs
runs_from true p (true ∷ bs) = runs_from true (suc p) bs
runs_from false p (true ∷ bs) = record { first = p; frames = suc (ahead bs) } ∷ runs_from true (suc p) bs

-- those of all frames
abbrev pub runs_of : List Bool → List Run
runs_of mask = runs_from false 0 mask

-- RULES, One run alone: runs have the numbers 0, 1, ..; one that is not there has no frames
abbrev pub run_at : List Bool → ℕ → Run
run_at mask k = get_or (runs_of mask) k (record { first = 0; frames = 0 })

-- RULES, One run alone: two numbers a run, its first frame and its frames
unfoldable pub pairs_of : List Run → List ℕ
pairs_of [] = []
pairs_of (r ∷ rs) = r.first ∷ r.frames ∷ pairs_of rs
