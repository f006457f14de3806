use Rattle.std.proofs.Common.{refl}
use prog.Memory.{size}
use denote.Param.{layout}
use Rattle.lists.proofs.Parts.{part_says, part_min}
use Rattle.lists.proofs.part.Goals as goal

pub returns : goal.returns
returns g c =
    let a = c.args in
    part_says (size (layout g.row.T)) a.s a.from a.count _ _ (part_min a.s.now a.from a.count c.min-start.ensures c.min.ensures) c.min-start.ensures refl
