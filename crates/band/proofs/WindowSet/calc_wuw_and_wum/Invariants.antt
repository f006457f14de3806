use Prim.Native.Nat.{◌-◌, min}
use Rattle.band.specs.Inner.Passes.{Moved, set_in, whole_entry, whole_side}
use Rattle.band.proofs.Blocks.{block_of}
use Rattle.band.proofs.WindowSet.calc_wuw_and_wum.Given as goal

-- the rows before row `from` are done
abbrev pub invariant-loop-from : goal.invariant-loop-from
invariant-loop-from l =
    Moved (block_of l.p l.n l.w 0 (min l.n l.from)) (whole_entry (set_in l.self.widths.now l.self.coefficients.now l.p.ivars l.n l.initial.m)) (whole_side (set_in l.self.widths.now l.self.coefficients.now l.p.ivars l.n l.initial.m)) l.initial.m l.m

abbrev pub decreases-loop-from : goal.decreases-loop-from
decreases-loop-from l = l.n - l.from
