use mathlib.Core.Path.{◌≡◌, sym, ap, subst, ◌∙◌}
use mathlib.Core.Bool.{true}
use Prim.Native.Nat.{ℕ, ◌*◌, ◌≤◌}
use native.Mathlib.Omega.{arith}
use borrow.Author.Tests.{not-false, not-true, leb-true}
use borrow.Author.Rules.{rules}
use lib.Dec.{leb}
use lib.ListN.{length}
use lib.Seq.{length-take-le}
use Rattle.std.proofs.lemmas.Result.{err_from_is_err_and}
use Rattle.voicing.specs.Mask.{stream_mask}
use Rattle.mlpg_adjust.specs.Trajectory.{record_size}
use Rattle.runs.specs.Runs.{runs_of, pairs_of}
use Rattle.runs.specs.Promise.{records_refusal}
use Rattle.runs.proofs.Findings.{runs-most}
use Rattle.runs.proofs.Ways.{passed-small, passed-recorded, lists-refused, runs-short, runs-told}
use Rattle.std.proofs.Common.{not}
use Rattle.runs.proofs.runs.Goals as goal
use Rattle.runs.proofs.runs.Goals.{After-count-count, Else-not-has_room, In_ok-check_records}

pub returns-in_err-check_records : goal.returns-in_err-check_records
returns-in_err-check_records c = let p = err_from_is_err_and c.from_residual.result c.from_residual.ensures.1 in rw (p.1, p.2) (lists-refused _ _ _ _ _ _ _ _ c.in_err-check_records.ensures)

-- nothing is refused of the lists
module _ (c : In_ok-check_records) where
  none : let a = c.args in records_refusal a.v a.masked a.windows (length a.records.now) a.durations.now ≡ 0
  none = sym c.in_ok-check_records.ensures

pub overflow_cast-windows : goal.overflow_cast-windows
overflow_cast-windows c = let a = c.args in omega (arith, passed-small a.v a.masked a.windows (length a.records.now) a.durations.now (none (goal.at.overflow_cast-windows c).In_ok-check_records))

pub invariant_of-states : goal.invariant_of-states
invariant_of-states c = let a = c.args in record { recorded = passed-recorded a.v a.masked a.windows (length a.records.now) a.durations.now (none (goal.at.invariant_of-states c).In_ok-check_records) _ c.record_size-size.ensures }

-- the runs are counted
module _ (c : After-count-count) where
  abbrev left : In_ok-check_records
  left = record { before = c.before.before.before.before; type_inv = search rules }

  counted : let a = c.args in c.count-count.result ≡ length (runs_of (stream_mask (record_size a.v a.windows a.masked) a.records.now a.threshold a.durations.now))
  counted = let a = c.args in
      subst (λ (m : ℕ). c.count-count.result ≡ length (runs_of (stream_mask m a.records.now a.threshold a.durations.now))) c.record_size-size.ensures c.count-count.ensures

  few : c.count-count.result ≤ 65536
  few = let a = c.args in
      omega (arith, counted, runs-most (record_size a.v a.windows a.masked) a.records.now a.threshold a.durations.now, (passed-recorded a.v a.masked a.windows (length a.records.now) a.durations.now (none left) (record { size = c.record_size-size.result; threshold = a.threshold }) c.record_size-size.ensures).frames)

pub returns-then-not-has_room : goal.returns-then-not-has_room
returns-then-not-has_room c =
    let a = c.args in
    runs-short a.v a.masked a.threshold a.windows a.records.now a.durations.now a.out.now (none (goal.at.returns-then-not-has_room c).In_ok-check_records) _ (counted (goal.at.returns-then-not-has_room c).After-count-count) (sym c.has_room.ensures ∙ not-true _ (ap not c.if-not-has_room.true))

-- there is room
module _ (c : Else-not-has_room) where
  fits : leb (c.count-count.result * 2) (length c.args.out.now) ≡ true
  fits = sym c.has_room.ensures ∙ not-false _ (ap not c.if-not-has_room.false)

  room : 2 * c.count-count.result ≤ length c.args.out.now
  room = omega (arith, leb-true (c.count-count.result * 2) (length c.args.out.now) fits)

pub overflow_mul-end : goal.overflow_mul-end
overflow_mul-end c = omega (arith, few (goal.at.overflow_mul-end c).After-count-count)

pub write-requires : goal.write-requires
write-requires c =
    let a = c.args in
    length-take-le _ _ (room (goal.at.write-requires c).Else-not-has_room) ∙ ap (λ (n : ℕ). 2 * n) c.count-count.ensures

pub overflow_cast-result : goal.overflow_cast-result
overflow_cast-result c = omega (arith, few (goal.at.overflow_cast-result c).After-count-count)

pub returns : goal.returns
returns c =
    let a = c.args in
    runs-told a.v a.masked a.threshold a.windows a.records.now a.durations.now a.out.now (none (goal.at.returns c).In_ok-check_records) _ (counted (goal.at.returns c).After-count-count) (fits (goal.at.returns c).Else-not-has_room) _
    (c.write.ensures ∙ ap (λ (m : ℕ). pairs_of (runs_of (stream_mask m a.records.now a.threshold a.durations.now))) c.record_size-size.ensures)

pub slice_bounds-write-end-2 : goal.slice_bounds-write-end-2
slice_bounds-write-end-2 c = sym (length-take-le _ _ (room (goal.at.slice_bounds-write-end-2 c).Else-not-has_room))
