use Rattle.solve.proofs.Factors.{Filling}
use Rattle.solve.proofs.factor_row.Given as goal

abbrev pub invariant-loop-i : goal.invariant-loop-i
invariant-loop-i l = Filling l.w l.rows l.factors l.t l.initial.m l.d l.i l.m
