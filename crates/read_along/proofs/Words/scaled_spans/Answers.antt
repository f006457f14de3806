use Rattle.std.proofs.Common.{sym, refl, arith}
use Rattle.read_along.proofs.Refusing.{timed}
use Rattle.read_along.proofs.Lengths.{scaled-long}
use Rattle.read_along.proofs.Ways.{writes_short, writes_done}
use Rattle.read_along.proofs.Words.scaled_spans.Goals as goal

pub returns-then-spans-count : goal.returns-then-spans-count
returns-then-spans-count c =
    let s = c.args.self in
    writes_short _ _ _ _ (sym c.in_ok-check_timing.ensures) (omega (arith, scaled-long c.args.scale s.labels.now s.nstate s.durations.now, c.if-spans-count.true))

pub put_spans-requires : goal.put_spans-requires
put_spans-requires c = (timed _ _ _ (sym c.in_ok-check_timing.ensures), c.if-spans-count.false, c.requires)

pub overflow_cast-result : goal.overflow_cast-result
overflow_cast-result c = record { fits = omega (arith, (timed _ _ _ (sym c.in_ok-check_timing.ensures)).few) }

pub returns : goal.returns
returns c =
    let s = c.args.self in
    writes_done _ _ _ _ _ _ (sym c.in_ok-check_timing.ensures) (omega (arith, scaled-long c.args.scale s.labels.now s.nstate s.durations.now, c.if-spans-count.false)) c.put_spans.ensures refl
