use mathlib.Core.Path.{◌≡◌, sym, ap, ◌∙◌}
use mathlib.Core.List.{List}
use Prim.Native.Nat.{ℕ, ◌+◌, ◌-◌, ◌/◌}
use native.Mathlib.Nat.{add-sub_cancel_left}
use lib.ListN.{length, take, drop}
use lib.Ieee.{Float}
use Rattle.model.specs.Record.{from_linear}
use Rattle.model.specs.Clamps.{variances_of, clamps_in}
use Rattle.model.proofs.Clamps.{variances_are}
use Rattle.model.proofs.voice.model.clamped.Goals as goal

-- the second half of a record, as the code cuts it, are its variances
half : (lin : List Float) → let n = length lin / 2 in clamps_in (take (n + n - n) (drop n lin)) ≡ clamps_in (variances_of (from_linear lin))
half lin =
    let n : ℕ = length lin / 2 in
    ap (λ (k : ℕ). clamps_in (take k (drop n lin))) (add-sub_cancel_left n n) ∙ ap (λ (l : List Float). clamps_in l) (sym (variances_are lin))

pub returns-then-all_between : goal.returns-then-all_between
returns-then-all_between c = sym (c.all_between.ensures c.if-all_between.true) ∙ half _

pub returns : goal.returns
returns c = c.count_clamped.ensures ∙ half _
