-- Which states, and so which frames, are voiced.
use Rattle.std.specs.Prelude.{Bool, List, [], ◌∷◌, ◌++◌, map, ℕ, ◌+◌, ◌*◌, length, take, drop, get_or, replicate, Float}
use Rattle.std.specs.Float.{nan}
use Rattle.lists.specs.Build.{build}
use Rattle.lists.specs.Flags.{is_on}
use Rattle.lists.specs.Frames.{expand}
use Rattle.model.specs.declared.voice.model.Weight.{Weight}
use Rattle.model.specs.Weight.{voiced_at}
use Rattle.model.specs.Record.{from_linear}

-- RULES, Mask: the frames' mask, each state's voicing once for each of its frames
unfoldable pub mask_of : Float → List Weight → List ℕ → List Bool
unfolding expand
mask_of threshold weights durations = expand durations (map (voiced_at threshold) weights)

-- the weight of state s, whose record is the s-th of so many numbers
abbrev pub weight_at : ℕ → List Float → ℕ → Weight
weight_at size records s = (from_linear (take size (drop (s * size) records))).msd

-- the weights of n states
unfoldable pub weights_of : ℕ → List Float → ℕ → List Weight
unfolding build
weights_of size records n = build (weight_at size records) n

-- number j of each of n states' records
unfoldable pub column : ℕ → List Float → ℕ → ℕ → List Float
unfolding build
column size records j n = build (λ s. get_or records (s * size + j) nan) n

-- RULES, Mask: which frames of a stream are voiced: of records of so many numbers, by their weights
abbrev pub stream_mask : ℕ → List Float → Float → List ℕ → List Bool
stream_mask size records threshold ds = mask_of threshold (weights_of size records (length ds)) ds

-- and by flags, one a frame: a state is voiced where the flag of its first frame says so
unfoldable pub mask_in : List ℕ → List ℕ → List Bool
mask_in [] flags = []
mask_in (d ∷ ds) flags = replicate d (is_on (get_or flags 0 0)) ++ mask_in ds (drop d flags)
