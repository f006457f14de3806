use Rattle.std.proofs.Common.{rules, ◌≡◌, sym, ◌∙◌, arith, length}
use Rattle.std.proofs.lemmas.Result.{err_from_is_err_and}
use lib.Seq.{length-take-le}
use Rattle.lists.specs.Totals.{total}
use Rattle.duration.specs.Shortest.{refusal_of_shortest}
use Rattle.duration.specs.Inner.Asked.{InPlace}
use Rattle.duration.specs.Promise.{refusal_of_lists}
use Rattle.duration.proofs.Shortest.{low-refused, low-frames}
use Rattle.duration.proofs.Refusals.{Fitting, fitting, lists-early}
use Rattle.duration.proofs.Calls.{room-kept, says-refused, says-unfit, says-handed}
use Rattle.duration.proofs.fit_states.Given.{Over}
use Rattle.duration.proofs.fit_states.Goals as goal
use Rattle.duration.proofs.fit_states.Goals.{In_ok-check_lists, In_ok-low}

-- the lists fit
module _ (g : Over) (c : In_ok-check_lists g) where
  lists : Fitting (length c.args.states.means.now) (length c.args.states.varis.now) (length c.args.states.shortest.now) (length c.args.out.now) (length c.args.work.now)
  lists = fitting _ _ _ _ _ (sym c.in_ok-check_lists.ensures)

-- and the shortest durations are taken
module _ (g : Over) (c : In_ok-low g) where
  low : (refusal_of_shortest c.args.states.shortest.now ≡ 0) × (c.in_ok-low.low ≡ total c.args.states.shortest.now)
  low = low-frames _ _ c.in_ok-low.ensures

pub returns-in_err-check_lists : goal.returns-in_err-check_lists
returns-in_err-check_lists g c k o late fits =
    let p = err_from_is_err_and c.from_residual.result c.from_residual.ensures.1 in
    rw (p.1, p.2) (says-refused _ _ _ _ _ _ (refusal_of_lists _ _ _ _ _) _ _ c.in_err-check_lists.ensures (lists-early _ _ _ _ _))

pub low_of-requires : goal.low_of-requires
low_of-requires g c = let s = lists g (goal.at.low_of-requires g c).In_ok-check_lists in omega (arith, s.shortest, s.few)

pub returns-in_err-low : goal.returns-in_err-low
returns-in_err-low g c k o late fits =
    let p = err_from_is_err_and c.from_residual-in_err-low.result c.from_residual-in_err-low.ensures.1 in
    let r = low-refused _ _ c.in_err-low.ensures in
    rw (p.1, p.2) (says-unfit _ _ _ _ _ _ _ _ _ (sym c.in_ok-check_lists.ensures) r.0 r.1)

pub slice_bounds-fit-end : goal.slice_bounds-fit-end
slice_bounds-fit-end g c = (lists g (goal.at.slice_bounds-fit-end g c).In_ok-check_lists).workspace

pub slice_bounds-fit-end-2 : goal.slice_bounds-fit-end-2
slice_bounds-fit-end-2 g c = sym (length-take-le _ _ (lists g (goal.at.slice_bounds-fit-end-2 g c).In_ok-check_lists).workspace)

pub fit-answer-requires : goal.fit-answer-requires
fit-answer-requires g c =
    let s = lists g (goal.at.fit-answer-requires g c).In_ok-check_lists in
    let l = low g (goal.at.fit-answer-requires g c).In_ok-low in
    search (rules, length-take-le _ _ s.workspace, l.1, s.few, s.agree, s.shortest) parts 8

pub hand_out-requires : goal.hand_out-requires
hand_out-requires g c =
    let s = lists g (goal.at.hand_out-requires g c).In_ok-check_lists in
    (s.output, room-kept _ _ _ (c.fit-answer.auto.arg3 ∙ length-take-le _ _ s.workspace))

pub returns : goal.returns
returns g c k o late fits =
    let s = lists g (goal.at.returns g c).In_ok-check_lists in
    let l = low g (goal.at.returns g c).In_ok-low in
    let f : InPlace k o c.fit-answer.result c.fit-answer.new.arg3 = search (rules, fits, l.1, s.few, s.agree, s.shortest) parts 8 in
    rw (sym c.in_ok-check_lists.ensures, l.0)
    (says-handed _ _ _ _ _ _ (c.fit-answer.auto.arg3 ∙ length-take-le _ _ s.workspace) late _ _ _ _ _ f.answer f.output s.output c.hand_out.ensures)
