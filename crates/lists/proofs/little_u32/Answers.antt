use mathlib.Core.Path.{sym, ap, ◌∙◌}
use native.Mathlib.Omega.{arith}
use Rattle.lists.specs.Bytes.{little}
use Rattle.lists.proofs.Bytes.{four_bytes}
use Rattle.lists.proofs.little_u32.Goals as goal

pub returns : goal.returns
returns c =
    let e = c.before.before.before.before.before in
    let a = e.args in
    c.of_four.ensures ∙ ap little (sym (four_bytes a.bytes.now a.at (omega (arith, e.if-n-at.false, e.if-n-lt4.false))))
