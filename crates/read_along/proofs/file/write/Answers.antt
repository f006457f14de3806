use Rattle.std.proofs.Common.{◌≡◌, ◌+◌, ◌*◌, ℕ, List, length, sym, ap, ◌∙◌, arith}
use Rattle.read_along.specs.Words.{spans_of}
use Rattle.read_along.specs.Format.{head_bytes, span_bytes, bytes_of_file}
use Rattle.read_along.proofs.Lengths.{spans-count, file-long}
use Rattle.read_along.proofs.Refusing.{timed}
use Rattle.read_along.proofs.Filing.{file-written}
use Rattle.read_along.proofs.Ways.{writes_short, writes_done}
use Rattle.read_along.proofs.file.write.Goals as goal

long : (words : List ℕ) (nstate : ℕ) (durations : List ℕ) → length (bytes_of_file (spans_of words nstate durations)) ≡ head_bytes + span_bytes * length words
long words nstate durations = file-long _ ∙ ap (λ (n : ℕ). head_bytes + span_bytes * n) (spans-count words nstate durations)

pub overflow_add-length : goal.overflow_add-length
overflow_add-length c = record { fits = omega (arith, (timed _ _ _ (sym c.in_ok-check_timing.ensures)).few) }

pub returns-then-out-length : goal.returns-then-out-length
returns-then-out-length c =
    let a = c.args in
    writes_short _ _ _ _ (sym c.in_ok-check_timing.ensures) (omega (arith, long a.words.now a.nstate a.durations.now, c.if-out-length.true))

pub put_heading-requires : goal.put_heading-requires
put_heading-requires c = omega (arith, (timed _ _ _ (sym c.in_ok-check_timing.ensures)).few)

pub put_spans-requires : goal.put_spans-requires
put_spans-requires c = timed _ _ _ (sym c.in_ok-check_timing.ensures)

pub returns : goal.returns
returns c =
    let a = c.args in
    let l = long a.words.now a.nstate a.durations.now in
    writes_done _ _ _ _ _ _ (sym c.in_ok-check_timing.ensures) (omega (arith, l, c.if-out-length.false)) (file-written _ _ _ _ _ _ c.put_heading.ensures c.put_spans.ensures) (sym l)
