use Rattle.houses.proofs.Filling.{set-put}
use Rattle.houses.proofs.slots.put_set.Goals as goal

pub returns : goal.returns
returns c =
    let a = c.args in
    set-put a.widths.now _ a.coefficients.now _ a.slot a.set_widths.now a.set_coefficients.now c.put.ensures c.put-2.ensures
