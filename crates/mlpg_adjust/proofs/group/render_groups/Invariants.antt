use Prim.Native.Nat.{◌-◌, min}
use Rattle.mlpg_adjust.specs.Inner.Groups.{Columned, column_of}
use Rattle.mlpg_adjust.proofs.group.render_groups.Given as goal

-- the columns before column `first` stand in the trajectory
abbrev pub invariant-loop-first : goal.invariant-loop-first
invariant-loop-first l = Columned (column_of l.p.stream l.inputs.widths.now l.inputs.coefficients.now l.inputs.records.now l.inputs.durations.now l.marks l.inputs.gv.now) l.v (min l.v l.first) l.out

abbrev pub decreases-loop-first : goal.decreases-loop-first
decreases-loop-first l = l.v - l.first
