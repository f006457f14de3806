use borrow.Author.Tests.{lt-ltb, le-ltb, eq-eqb, ne_eqb}
use Rattle.mlpg_adjust.proofs.Calls.{on_is}
use Rattle.runs.proofs.refusing.check_found.Goals as goal

pub returns-then-is_some : goal.returns-then-is_some
returns-then-is_some c = rw (on_is c.args.gv, ← c.is_some.ensures, c.if-is_some.true)

pub returns-then-frames-eq0 : goal.returns-then-frames-eq0
returns-then-frames-eq0 c = rw (on_is c.args.gv, ← c.is_some.ensures, c.if-is_some.false, eq-eqb _ _ c.if-frames-eq0.true)

pub returns-then-widths-gt1 : goal.returns-then-widths-gt1
returns-then-widths-gt1 c = rw (on_is c.args.gv, ← c.is_some.ensures, c.if-is_some.false, ne_eqb _ _ c.if-frames-eq0.false, lt-ltb _ _ c.if-widths-gt1.true)

pub returns : goal.returns
returns c = rw (on_is c.args.gv, ← c.is_some.ensures, c.if-is_some.false, ne_eqb _ _ c.if-frames-eq0.false, le-ltb _ _ c.if-widths-gt1.false)
