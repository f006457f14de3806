use mathlib.Core.Path.{sym}
use Rattle.job.proofs.Memory.{is_long}
use Rattle.job.proofs.LinkWays.{short_6}
use Rattle.job.proofs.link.check_begin.Goals as goal

pub returns-then-link-lt-BYTES : goal.returns-then-link-lt-BYTES
returns-then-link-lt-BYTES c = short_6 _ c.if-link-lt-BYTES.true

pub returns : goal.returns
returns c = sym (is_long _ c.if-link-lt-BYTES.false)
