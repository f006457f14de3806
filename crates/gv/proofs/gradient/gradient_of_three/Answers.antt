use Rattle.gv.proofs.Three.{three-gradient}
use Rattle.gv.proofs.gradient.gradient_of_three.Goals as goal

pub returns : goal.returns
returns c =
    rw (c.product.ensures, c.product-2.ensures, c.product-3.ensures, c.product-4.ensures, c.product-5.ensures)
    (three-gradient c.args.m.now c.args.p.rows c.args.p.values c.args.n c.args.t c.requires.0 c.requires.1 c.requires.2.room)
