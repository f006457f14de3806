use mathlib.Core.Path.{◌≡◌, refl, ap, ◌∙◌}
use Prim.Native.Nat.{ℕ, ◌+◌, ◌-◌, ◌*◌}
use native.Mathlib.Nat.{add-sub_cancel_left}
use native.Mathlib.Omega.{arith}
use lib.ListN.{take, drop, get_or, length-take}
use Rattle.lists.proofs.Sums.{get_or-le-total}
use Rattle.model.specs.declared.voice.model.Clamps.{Clamps}
use Rattle.model.specs.Record.{from_linear}
use Rattle.model.specs.Clamps.{is_high, is_low}
use Rattle.mlpg_adjust.specs.Inner.Clamps.{state_clamps}
use Rattle.mlpg_adjust.proofs.Clamps.{Reached, reached-none, reached-next, reached-all, reached-fits}
use Rattle.mlpg_adjust.proofs.counting.of_states.Goals as goal
use Rattle.mlpg_adjust.proofs.counting.of_states.Goals.{After-of_state-state}

module _ (c : After-of_state-state) where
  -- a state's part
  part : let a = c.args in c.of_state-state.result ≡ state_clamps a.u.threshold (get_or a.durations.now c.loop-s.s 0) (from_linear (take a.u.size (drop (c.loop-s.s * a.u.size) a.records.now)))
  part =
      let a = c.args in
      let from : ℕ = c.loop-s.s * a.u.size in
      c.of_state-state.ensures ∙ ap (λ (n : ℕ). state_clamps a.u.threshold (get_or a.durations.now c.loop-s.s 0) (from_linear (take n (drop from a.records.now)))) (add-sub_cancel_left from a.u.size)

  high : let l = c.loop-s in Reached is_high c.args.u.size c.args.records.now c.args.u.threshold c.args.durations.now (l.s + 1) (l.high + c.of_state-state.result.high)
  high = reached-next is_high _ _ _ _ _ _ c.loop-s.invariant.0 _ _ c.loop-s-test.true refl (ap (λ (x : Clamps). x.high) part)

  low : let l = c.loop-s in Reached is_low c.args.u.size c.args.records.now c.args.u.threshold c.args.durations.now (l.s + 1) (l.low + c.of_state-state.result.low)
  low = reached-next is_low _ _ _ _ _ _ c.loop-s.invariant.1 _ _ c.loop-s-test.true refl (ap (λ (x : Clamps). x.low) part)

pub of_state-state-requires : goal.of_state-state-requires
of_state-state-requires c =
    let from : ℕ = c.loop-s.s * c.args.u.size in
    (omega (arith, c.requires.0, length-take (from + c.args.u.size - from) (drop from c.args.records.now)), omega (arith, c.requires.2, get_or-le-total c.args.durations.now c.loop-s.s))

pub overflow_add-high : goal.overflow_add-high
overflow_add-high c = omega (arith, reached-fits is_high _ _ _ _ c.requires.0 c.requires.2 (c.loop-s.s + 1) _ (high (goal.at.overflow_add-high c).After-of_state-state))

pub overflow_add-low : goal.overflow_add-low
overflow_add-low c = omega (arith, reached-fits is_low _ _ _ _ c.requires.0 c.requires.2 (c.loop-s.s + 1) _ (low (goal.at.overflow_add-low c).After-of_state-state))

pub loop-s-preserved : goal.loop-s-preserved
loop-s-preserved c = (high (goal.at.loop-s-preserved c).After-of_state-state, low (goal.at.loop-s-preserved c).After-of_state-state)

pub returns : goal.returns
returns c =
    let l = c.loop-s in
    rw (reached-all is_high _ _ _ _ _ _ l.invariant.0 c.loop-s-test.false, reached-all is_low _ _ _ _ _ _ l.invariant.1 c.loop-s-test.false)

pub loop-s-init : goal.loop-s-init
loop-s-init c = (reached-none is_high _ _ _ _, reached-none is_low _ _ _ _)
