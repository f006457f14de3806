-- Each turn takes a byte at least.
use Rattle.std.proofs.Common.{◌-◌}
use Rattle.job.specs.Link.{link_room}
use Rattle.spj.proofs.take_parts.Given as goal

abbrev pub decreases-loop-n : goal.decreases-loop-n
decreases-loop-n g l = link_room - l.n
