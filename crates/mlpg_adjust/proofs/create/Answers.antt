use mathlib.Core.Path.{◌≡◌, sym}
use Rattle.std.proofs.lemmas.Result.{err_from_is_err_and}
use Rattle.mlpg_adjust.specs.Promise.{lengths_of, create_refusal}
use Rattle.mlpg_adjust.specs.Inner.Groups.{Shaped}
use Rattle.mlpg_adjust.proofs.Ways.{accepted_shape, accepted_gv, accepted-room, create_refused, create_done}
use Rattle.mlpg_adjust.proofs.create.Goals as goal
use Rattle.mlpg_adjust.proofs.create.Goals.{In_ok-check_create}

-- nothing is refused
ok : (c : In_ok-check_create) → let a = c.args in create_refusal a.stream a.widths.now a.coefficients.now a.durations.now (lengths_of a.records.now a.gv.now a.switches.now a.out.now a.work.now a.marks.now) ≡ 0
ok c = sym c.in_ok-check_create.ensures

pub returns-in_err-check_create : goal.returns-in_err-check_create
returns-in_err-check_create c =
    let a = c.args in
    let p = err_from_is_err_and c.from_residual.result c.from_residual.ensures.1 in
    rw (p.1, p.2) (create_refused a.stream a.widths.now a.coefficients.now a.records.now a.durations.now a.gv.now a.switches.now a.out.now a.work.now a.marks.now _ c.in_err-check_create.ensures)

module _ (c : In_ok-check_create) where
  shape : let a = c.args in Shaped a.stream a.widths.now a.coefficients.now a.records.now a.durations.now
  shape = let a = c.args in accepted_shape a.stream a.widths.now a.coefficients.now a.records.now a.durations.now a.gv.now a.switches.now a.out.now a.work.now a.marks.now (ok c)

pub report-clamped-requires : goal.report-clamped-requires
report-clamped-requires c = let s = shape (goal.at.report-clamped-requires c).In_ok-check_create in record { most_v = s.most_v; most-windows = s.most-windows; recorded = s.recorded; frames = s.frames }

pub write-requires : goal.write-requires
write-requires c =
    let a = c.args in
    (shape (goal.at.write-requires c).In_ok-check_create, accepted_gv a.stream a.widths.now a.coefficients.now a.records.now a.durations.now a.gv.now a.switches.now a.out.now a.work.now a.marks.now (ok (goal.at.write-requires c).In_ok-check_create), accepted-room a.stream a.widths.now a.coefficients.now a.records.now a.durations.now a.gv.now a.switches.now a.out.now a.work.now a.marks.now (ok (goal.at.write-requires c).In_ok-check_create))

pub returns : goal.returns
returns c =
    let a = c.args in
    create_done a.stream a.widths.now a.coefficients.now a.records.now a.durations.now a.gv.now a.switches.now a.out.now a.work.now a.marks.now _ _ _ (ok (goal.at.returns c).In_ok-check_create) c.write.ensures.0 c.write.ensures.1 c.write.ensures.2 _ c.report-clamped.ensures
