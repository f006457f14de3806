use mathlib.Core.Path.{◌≡◌, refl, sym, ap, ◌∙◌}
use Prim.Native.Nat.{ℕ, ◌*◌}
use native.Mathlib.Nat.{add-sub_cancel_left}
use native.Mathlib.Omega.{arith}
use lib.ListN.{take, drop, get_or}
use Rattle.model.specs.Weight.{voiced_at}
use Rattle.model.specs.Record.{from_linear}
use Rattle.voicing.specs.Mask.{weight_at}
use Rattle.runs.specs.Inner.Finding.{turns_to}
use Rattle.runs.proofs.Findings.{passed-all, passed-fits, passed-next, passed-turned}
use Rattle.runs.proofs.states.States.until.Goals as goal
use Rattle.runs.proofs.states.States.until.Goals.{After-turns}

module _ (c : After-turns) where
  -- what is asked of it
  asked : let a = c.args.self in let s = c.loop-state.state in c.turns.result ≡ turns_to c.args.voiced (voiced_at a.voicing.threshold (weight_at a.voicing.size a.records.now s)) (get_or a.durations.now s 0)
  asked =
      let a = c.args.self in
      let s = c.loop-state.state in
      c.turns.ensures
      ∙ ap (λ (n : ℕ). turns_to c.args.voiced (voiced_at a.voicing.threshold (from_linear (take n (drop (s * a.voicing.size) a.records.now))).msd) (get_or a.durations.now s 0)) (add-sub_cancel_left (s * a.voicing.size) a.voicing.size)

pub returns-then-turns : goal.returns-then-turns
returns-then-turns c = passed-turned _ _ _ _ c.loop-state.invariant c.loop-state-test.true (sym c.if-turns.true ∙ asked (goal.at.returns-then-turns c).After-turns)

pub overflow_add-frame : goal.overflow_add-frame
overflow_add-frame c = omega (arith, c.args.self.recorded.frames, passed-fits _ _ _ _ c.loop-state.invariant c.loop-state-test.true refl)

pub loop-state-preserved : goal.loop-state-preserved
loop-state-preserved c = passed-next _ _ _ _ c.loop-state.invariant c.loop-state-test.true refl (sym c.if-turns.false ∙ asked (goal.at.loop-state-preserved c).After-turns)

pub returns : goal.returns
returns c = passed-all _ _ _ _ c.loop-state.invariant c.loop-state-test.false
