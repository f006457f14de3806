use mathlib.Core.Path.{ap, ◌∙◌}
use Prim.Native.Nat.{ℕ, min}
use lib.ListN.{length}
use Rattle.model.proofs.Windows.{start-at}
use Rattle.model.proofs.voice.window.start.Goals as goal

pub returns : goal.returns
returns c =
    let a = c.args in
    c.total_u32.ensures
    ∙ start-at a.widths.now a.i _ (c.min-before.ensures ∙ ap (λ (k : ℕ). min k (length a.widths.now)) c.min.ensures)
