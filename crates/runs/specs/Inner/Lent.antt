-- States as src/ lends them.
use Rattle.std.specs.Prelude.{Bool, List}
use Rattle.voicing.specs.Mask.{stream_mask}
use Rattle.runs.specs.declared.states.States.{States}

-- which frames of the states that are lent are voiced
abbrev pub mask_in : States → List Bool
mask_in s = stream_mask s.voicing.size s.records.now s.voicing.threshold s.durations.now
