use mathlib.Core.Path.{◌∙◌}
use Rattle.job.proofs.Damages.{length-right, length_wrong}
use Rattle.job.proofs.finding.length_found.Goals as goal
use Rattle.job.proofs.finding.length_found.Goals.{After-state_bytes}

pub returns-then-len-whole : goal.returns-then-len-whole
returns-then-len-whole c = length-right c.args.bytes.now _ _ _ c.little_endian-version.ensures c.state_bytes.ensures c.little_endian-count.ensures c.if-len-whole.true

pub returns : goal.returns
returns c =
    c.damaged.ensures ∙ length_wrong c.args.bytes.now _ _ _ c.little_endian-version.ensures c.state_bytes.ensures c.little_endian-count.ensures c.if-len-whole.false _ c.min.ensures
