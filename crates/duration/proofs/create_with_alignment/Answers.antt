use Rattle.std.proofs.Common.{◌≡◌, ◌≤◌, sym, ◌∙◌, arith, ℕ, [], ◌∷◌, length}
use Rattle.std.proofs.lemmas.Result.{err_from_is_err_and}
use lib.Seq.{length-take-le}
use Rattle.lists.specs.Ends.{counted}
use Rattle.steps.specs.Steps.{States, states}
use Rattle.duration.specs.Shortest.{refusal_of_shortest}
use Rattle.duration.specs.Align.{groups, fit_along, refusal_along}
use Rattle.duration.specs.Promise.{Says}
use Rattle.duration.proofs.Shortest.{shortest-taken, low-refused, low-frames}
use Rattle.duration.proofs.Refusals.{Labels, Fitting, labelled, labels-early}
use Rattle.duration.proofs.Closing.{along-clears}
use Rattle.duration.proofs.Calls.{room-kept, says-refused, says-unfit, says-handed, aligned-done, aligned-refused}
use Rattle.duration.proofs.Drift.{on_time_kept}
use Rattle.duration.proofs.create_with_alignment.Goals as goal
use Rattle.duration.proofs.create_with_alignment.Goals.{In_ok-check_labels, In_ok-low_of, After-fit_along-fitted, After-hand_out-answer}

-- the labels cover the states, and the lists fit
module _ (c : In_ok-check_labels) where
  lists : Labels c.args.nstate (length c.args.ends.now) (length c.args.means.now) × Fitting (length c.args.means.now) (length c.args.varis.now) (length c.args.shortest.now) (length c.args.out.now) (length c.args.work.now)
  lists = labelled _ _ _ _ _ _ _ (sym c.in_ok-check_labels.ensures)

-- and the shortest durations are taken
module _ (c : In_ok-low_of) where
  low : refusal_of_shortest c.args.shortest.now ≡ 0
  low = (low-frames _ _ c.in_ok-low_of.ensures).0

-- the front of the work space is as long as it was
module _ (c : After-fit_along-fitted) where
  W-length : length c.args.means.now ≤ length c.args.work.now → length c.fit_along-fitted.new.work ≡ length c.args.means.now
  W-length h = c.fit_along-fitted.auto.work ∙ length-take-le _ _ h

-- the answer that was handed out
module _ (c : After-hand_out-answer) (room : length c.args.means.now ≤ length c.args.out.now) (long : length c.fit_along-fitted.new.work ≡ length c.args.means.now) where
  abbrev all : States
  all = let a = c.args in states a.means.now a.varis.now a.shortest.now

  says : let a = c.args in let gs = groups a.nstate 0 0 a.ends.now in let o = fit_along all gs 0 in Says (refusal_along all gs 0) (o.changes ∷ []) o.durations (length a.means.now) a.out.now a.work.now (counted c.hand_out-answer.result) c.hand_out-answer.new.out c.hand_out-answer.new.work
  says = says-handed _ _ _ _ _ _ long (along-clears _ _ _) _ _ _ _ _ c.fit_along-fitted.ensures.answer c.fit_along-fitted.ensures.output room c.hand_out-answer.ensures

pub returns-in_err-check_labels : goal.returns-in_err-check_labels
returns-in_err-check_labels c =
    let p = err_from_is_err_and c.from_residual.result c.from_residual.ensures.1 in
    rw (p.1, p.2) (on_time_kept _ _ _ _ _ _ _ _ (λ (i : ℕ). c.type_inv.ends i) (says-refused _ _ _ _ _ _ _ _ _ c.in_err-check_labels.ensures (labels-early _ _ _ _ _ _ _)))

pub low_of-requires : goal.low_of-requires
low_of-requires c = omega (arith, (lists (goal.at.low_of-requires c).In_ok-check_labels).1.shortest, (lists (goal.at.low_of-requires c).In_ok-check_labels).1.few)

pub returns-in_err-low_of : goal.returns-in_err-low_of
returns-in_err-low_of c =
    let p = err_from_is_err_and c.from_residual-in_err-low_of.result c.from_residual-in_err-low_of.ensures.1 in
    let r = low-refused _ _ c.in_err-low_of.ensures in
    rw (p.1, p.2) (on_time_kept _ _ _ _ _ _ _ _ (λ (i : ℕ). c.type_inv.ends i) (says-unfit _ _ _ _ _ _ _ _ _ (sym c.in_ok-check_labels.ensures) r.0 r.1))

pub slice_bounds-fit_along-end : goal.slice_bounds-fit_along-end
slice_bounds-fit_along-end c = (lists (goal.at.slice_bounds-fit_along-end c).In_ok-check_labels).1.workspace

pub slice_bounds-fit_along-end-2 : goal.slice_bounds-fit_along-end-2
slice_bounds-fit_along-end-2 c = sym (length-take-le _ _ (lists (goal.at.slice_bounds-fit_along-end-2 c).In_ok-check_labels).1.workspace)

pub fit_along-fitted-requires : goal.fit_along-fitted-requires
fit_along-fitted-requires c =
    let s = lists (goal.at.fit_along-fitted-requires c).In_ok-check_labels in
    record {
      lists = record { few = s.1.few; varis = s.1.agree; shortest = s.1.shortest; workspace = length-take-le _ _ s.1.workspace };
      low = (shortest-taken _ (low (goal.at.fit_along-fitted-requires c).In_ok-low_of)).few;
      some = s.0.some;
      cover = s.0.cover;
    }

pub hand_out-answer-requires : goal.hand_out-answer-requires
hand_out-answer-requires c =
    let s = lists (goal.at.hand_out-answer-requires c).In_ok-check_labels in
    (s.1.output, room-kept _ _ _ (W-length (goal.at.hand_out-answer-requires c).After-fit_along-fitted s.1.workspace))

pub returns-in_default : goal.returns-in_default
returns-in_default c =
    let s = lists (goal.at.returns-in_default c).In_ok-check_labels in
    on_time_kept _ _ _ _ _ _ _ _ (λ (i : ℕ). c.type_inv.ends i) (rw (sym c.in_ok-check_labels.ensures, low (goal.at.returns-in_default c).In_ok-low_of)
    (aligned-refused _ _ _ _ _ _ _ _ _ (says (goal.at.returns-in_default c).After-hand_out-answer s.1.output (W-length (goal.at.returns-in_default c).After-fit_along-fitted s.1.workspace)) _ c.unwrap_err.ensures))

pub overflow_cast-result : goal.overflow_cast-result
overflow_cast-result c = omega (arith, (lists (goal.at.overflow_cast-result c).In_ok-check_labels).1.few)

pub returns : goal.returns
returns c =
    let s = lists (goal.at.returns c).In_ok-check_labels in
    on_time_kept _ _ _ _ _ _ _ _ (λ (i : ℕ). c.type_inv.ends i) (rw (sym c.in_ok-check_labels.ensures, low (goal.at.returns c).In_ok-low_of)
    (aligned-done _ _ _ _ _ _ _ _ _ (says (goal.at.returns c).After-hand_out-answer s.1.output (W-length (goal.at.returns c).After-fit_along-fitted s.1.workspace)) _ c.in-Ok.is))
