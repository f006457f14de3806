use mathlib.Core.Path.{◌≡◌, refl}
use Prim.Native.Nat.{min}
use native.Mathlib.Omega.{arith}
use Rattle.band.specs.Inner.Passes.{Moved, whole_entry, whole_side, set_in}
use Rattle.band.proofs.Blocks.{block_of, lies, blocks_next, region-done}
use Rattle.band.proofs.WindowSet.calc_wuw_and_wum.Goals as goal
use Rattle.band.proofs.WindowSet.calc_wuw_and_wum.Goals.{After-pass_block}

module _ (c : After-pass_block) where
  -- the rows before row `to` are done
  done : Moved (block_of c.places-p.result c.args.g.n c.from-w.result 0 c.min-to.result) (whole_entry (set_in c.args.self.widths.now c.args.self.coefficients.now c.places-p.result.ivars c.args.g.n c.args.m.now)) (whole_side (set_in c.args.self.widths.now c.args.self.coefficients.now c.places-p.result.ivars c.args.g.n c.args.m.now)) c.args.m.now c.pass_block.new.m
  done =
      let l = c.loop-from in
      let s = c.args in
      let e : min s.g.n l.from ≡ l.from = omega arith in
      blocks_next s.self.widths.now s.self.coefficients.now c.places-p.result s.g.n c.from-w.result s.m.now l.m _ l.from _ (lies s.g _ _ _ _ _ c.places-p.ensures c.requires.1 refl c.from-w.ensures c.requires.2) (omega arith) (rw e at l.invariant) c.pass_block.ensures

pub loop-from-preserved : goal.loop-from-preserved
loop-from-preserved c = rw (← c.min-to.ensures) (done (goal.at.loop-from-preserved c).After-pass_block)

pub returns : goal.returns
returns c =
    let e : min c.args.g.n c.loop-from.from ≡ c.args.g.n = omega arith in
    region-done c.args.self.widths.now c.args.self.coefficients.now c.args.g c.args.m.now _ c.requires.2 _ _ _ c.places-p.ensures refl c.from-w.ensures (rw e at c.loop-from.invariant)

-- there is no block after this one
pub returns-2 : goal.returns-2
returns-2 c =
    let e : c.min-to.result ≡ c.args.g.n = omega arith in
    region-done c.args.self.widths.now c.args.self.coefficients.now c.args.g c.args.m.now _ c.requires.2 _ _ _ c.places-p.ensures refl c.from-w.ensures (rw e at (done (goal.at.returns-2 c).After-pass_block))
