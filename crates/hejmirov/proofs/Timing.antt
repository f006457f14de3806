-- After an alignment that is accepted, words of its labels are never refused for their durations.
use mathlib.Core.Path.{◌≡◌, sym, ap, ◌∙◌}
use mathlib.Core.List.{List}
use Prim.Native.Nat.{ℕ, ◌*◌, ◌≤◌}
use lib.ListN.{length, take}
use lib.Ieee.{Float}
use Rattle.lists.specs.Sizes.{most_words}
use Rattle.lists.specs.Totals.{total}
use Rattle.steps.specs.Steps.{States}
use Rattle.duration.proofs.Aligning.{align_labels}
use Rattle.read_along.specs.Promise.{timing_refusal}
use Rattle.read_along.proofs.Refusing.{timed_0}
use Rattle.hejmirov.specs.Promise.{AlignCallSays}
use Rattle.hejmirov.proofs.Rendering.{align_durations}

module _ (ss : States) (nstate : ℕ) (ends : List Float) (out work : List ℕ) (written changes : ℕ) (out' work' : List ℕ) (written' changes' : ℕ)
    (a : AlignCallSays ss nstate ends out work written changes 0 out' work' written' changes') where
  pub align_timed : (words : List ℕ) → length words ≤ most_words → total words ≡ length ends → timing_refusal words nstate (take written' out') ≡ 0
  align_timed words few labels =
      let l = align_labels ss nstate ends out work a.answer out' work' (sym a.gives.answers) a.says.says in
      let d = align_durations ss nstate ends out work written changes out' work' written' changes' a in
      let cover : total words * nstate ≡ length (take written' out') = ap (λ (n : ℕ). n * nstate) labels ∙ l.cover ∙ sym d.0 in
      timed_0 words nstate (take written' out') l.some (record { few = few; narrow = l.narrow; agree = cover; states = d.1; short = d.2 })
