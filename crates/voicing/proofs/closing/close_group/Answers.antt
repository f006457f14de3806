use mathlib.Core.Path.{refl, ◌≡◌, sym, ◌∙◌}
use mathlib.Core.Bool.{true}
use Prim.Native.Nat.{◌+◌, ◌≤◌}
use native.Mathlib.Omega.{arith}
use lib.ListN.{get_or, length}
use Rattle.lists.specs.Totals.{total}
use Rattle.voicing.specs.Inner.Fits.{goes_on}
use Rattle.voicing.proofs.Passes.{passed-fits}
use Rattle.voicing.proofs.Groups.{Planned, planned, gathering, gathering_unvoiced, gathering-ends, gathering-state, gathering-next, gathered}
use Rattle.voicing.proofs.closing.close_group.Goals as goal
use Rattle.voicing.proofs.closing.close_group.Goals.{then-goes_on, else-goes_on, In-loop-s, After-run_end-end}

module _ (c : In-loop-s) where
  -- the state's frames are frames of the stream
  fits : c.loop-s.f + get_or c.args.m.durations.now c.loop-s.s 0 ≤ total c.args.m.durations.now
  fits = passed-fits c.loop-s.invariant.passed c.loop-s-test.true refl

module _ (c : After-run_end-end) where
  fit : Planned c.args.size (length c.args.records.now) c.args.widths.now c.args.m.durations.now c.args.m.flags.now c.plan_of-p.result c.args.c.first (length c.args.work.now)
  fit = planned c.requires c.plan_of-p.ensures

  voiced : true ≡ goes_on c.args.m.flags.now c.loop-s.f (get_or c.args.m.durations.now c.loop-s.s 0)
  voiced = sym c.if-goes_on.true ∙ c.goes_on.ensures

  -- the run ends behind them
  ends : c.loop-s.f + get_or c.args.m.durations.now c.loop-s.s 0 ≤ c.run_end-end.result
  ends = gathering-ends _ _ _ _ _ _ _ c.loop-s.invariant c.loop-s-test.true refl fit voiced c.run_end-end.ensures

pub close_state-requires : goal.close_state-requires
close_state-requires c = gathering-state _ _ _ _ _ _ _ c.loop-s.invariant c.loop-s-test.true refl (fit (goal.at.close_state-requires c).After-run_end-end) (voiced (goal.at.close_state-requires c).After-run_end-end) c.run_end-end.ensures

pub loop-s-preserved : goal.loop-s-preserved
loop-s-preserved c = elim c.if-goes_on.branch [
  | then-goes_on w ↦ rw (w.work-is, w.f-is, w.k-is, w.begin-is, w.end-is)
      (gathering-next _ _ _ _ _ _ _ c.loop-s.invariant c.loop-s-test.true refl (planned c.requires c.plan_of-p.ensures) (sym w.if-goes_on.true ∙ c.goes_on.ensures) w.run_end-end.ensures _ w.close_state.ensures)
  | else-goes_on w ↦ rw (w.work-is, w.f-is, w.k-is, w.begin-is, w.end-is)
      (gathering_unvoiced _ _ _ _ _ _ _ c.loop-s.invariant c.loop-s-test.true refl (sym w.if-goes_on.false ∙ c.goes_on.ensures))
]

pub returns : goal.returns
returns c = let a = c.args in gathered a.size a.records.now a.widths.now a.m.durations.now a.m.flags.now a.g a.c a.work.now _ c.requires (rw c.plan_of-p.ensures at c.loop-s.invariant) c.loop-s-test.false

pub loop-s-init : goal.loop-s-init
loop-s-init c = gathering _ _ _ _ _ _ _ _

pub overflow_add-next : goal.overflow_add-next
overflow_add-next c = omega (arith, fits (goal.at.overflow_add-next c).In-loop-s, c.args.m.flagged.frames)

pub goes_on-requires : goal.goes_on-requires
goes_on-requires c = omega (arith, fits (goal.at.goes_on-requires c).In-loop-s, c.args.m.flagged.room)

pub overflow_sub-t-then-goes_on : goal.overflow_sub-t-then-goes_on
overflow_sub-t-then-goes_on c = ends (goal.at.overflow_sub-t-then-goes_on c).After-run_end-end
