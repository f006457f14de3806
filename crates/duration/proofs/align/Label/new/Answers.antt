use mathlib.Core.Path.{sym, ap}
use mathlib.Core.Bool.{Bool}
use Rattle.duration.specs.Align.{end_if}
use Rattle.duration.proofs.align.Label.new.Goals as goal

pub returns-then-end : goal.returns-then-end
returns-then-end c = ap (λ (b : Bool). record { first = c.args.first; end = end_if b c.args.end }) (sym c.if-end.true)

pub returns : goal.returns
returns c = ap (λ (b : Bool). record { first = c.args.first; end = end_if b c.args.end }) (sym c.if-end.false)
