use Rattle.std.proofs.Common.{sym, ap, ◌∙◌, rules}
use Rattle.spool.specs.Refusal.{frames_refusal}
use Rattle.spool.specs.Refusal.Steps.{durations_stop, durations_then}
use Rattle.spool.proofs.check_durations.Goals as goal

pub returns-in_err-check_states : goal.returns-in_err-check_states
returns-in_err-check_states c = let h = durations_stop c.args.durations.now _ c.in_err-check_states.ensures in search rules

pub returns : goal.returns
returns c = c.check_frames.ensures ∙ ap frames_refusal c.frames_of.ensures.sum ∙ sym (durations_then _ (sym c.in_ok-check_states.ensures))
