use Rattle.std.proofs.Common.{◌-◌, ◌*◌, ◌<◌}
use Rattle.voices.specs.Scales.{most_scale}
use Rattle.voices.proofs.scale_of.Given as goal

abbrev pub invariant-loop-scale : goal.invariant-loop-scale
invariant-loop-scale l = 0 < l.scale

abbrev pub decreases-loop-scale : goal.decreases-loop-scale
decreases-loop-scale l = 10 * most_scale - l.scale
