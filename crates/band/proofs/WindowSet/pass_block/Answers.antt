use native.Mathlib.Omega.{arith}
use Rattle.band.proofs.Blocks.{rows-cleared, block_done}
use Rattle.band.proofs.WindowSet.pass_block.Goals as goal

pub returns : goal.returns
returns c =
    block_done c.args.self.widths.now c.args.self.coefficients.now c.args.ivars c.args.b c.args.m.now c.requires.2 c.requires.3 (omega (arith, c.requires.4.right-at, c.requires.4.room)) _ _
    (rows-cleared c.args.b c.args.m.now _ _ c.requires.4 c.requires.0 c.clear.ensures c.clear-2.ensures) c.pass_windows.ensures
