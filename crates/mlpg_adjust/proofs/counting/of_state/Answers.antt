use mathlib.Core.Path.{◌≡◌, ap, ◌∙◌}
use Prim.Native.Nat.{◌≤◌}
use native.Mathlib.Nat.{mul-le-mul}
use native.Mathlib.Omega.{arith}
use Rattle.model.specs.declared.voice.model.Clamps.{Clamps}
use Rattle.model.specs.Weight.{voiced_at}
use Rattle.model.specs.Record.{from_linear}
use Rattle.model.specs.Clamps.{is_high, is_low}
use Rattle.mlpg_adjust.proofs.Clamps.{state-none, state-some, state-few}
use Rattle.std.proofs.Common.{not}
use Rattle.mlpg_adjust.proofs.counting.of_state.Goals as goal
use Rattle.mlpg_adjust.proofs.counting.of_state.Goals.{After-clamped-once, After-voiced}

voiced : (c : After-voiced) → let a = c.args in c.voiced.result ≡ voiced_at a.threshold (from_linear a.lin.now).msd
voiced c = c.voiced.ensures ∙ ap (voiced_at c.args.threshold) c.msd-weight.ensures

module _ (c : After-clamped-once) where
  high-few : c.clamped-once.result.high ≤ 256
  high-few = omega (arith, ap (λ (x : Clamps). x.high) c.clamped-once.ensures, state-few is_high c.args.lin.now c.requires.0)

  low-few : c.clamped-once.result.low ≤ 256
  low-few = omega (arith, ap (λ (x : Clamps). x.low) c.clamped-once.ensures, state-few is_low c.args.lin.now c.requires.0)

pub returns-then-not-voiced : goal.returns-then-not-voiced
returns-then-not-voiced c = state-none _ _ _ _ (voiced (goal.at.returns-then-not-voiced c).After-voiced) (ap not c.if-not-voiced.true)

pub overflow_mul-result : goal.overflow_mul-result
overflow_mul-result c = omega (arith, mul-le-mul c.requires.1 (high-few (goal.at.overflow_mul-result c).After-clamped-once))

pub overflow_mul-result-2 : goal.overflow_mul-result-2
overflow_mul-result-2 c = omega (arith, mul-le-mul c.requires.1 (low-few (goal.at.overflow_mul-result-2 c).After-clamped-once))

pub returns : goal.returns
returns c = state-some _ _ _ _ (voiced (goal.at.returns c).After-voiced) (ap not c.if-not-voiced.false) _ c.clamped-once.ensures
