use mathlib.Core.Path.{refl, ◌∙◌}
use Rattle.region.proofs.Across.{across-none, across-then}
use Rattle.voicing.specs.Inner.States.{put_pairs}
use Rattle.voicing.proofs.States.{put_next}
use Rattle.voicing.proofs.closing.close_state.Goals as goal

pub loop-i-init : goal.loop-i-init
unfolding put_pairs
loop-i-init c = across-none (λ l h. refl)

pub loop-i-preserved : goal.loop-i-preserved
loop-i-preserved c =
    let s = c.args in
    across-then c.loop-i.invariant c.close_window.ensures
    (λ l h a b. b ∙ rw (a, c.ends_of-e.ensures) (put_next s.records.now s.p s.mean s.widths.now s.t l c.loop-i.i _ refl refl))
