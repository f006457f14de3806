use mathlib.Core.Path.{refl, sym, ap, ◌∙◌}
use mathlib.Core.List.{map}
use native.Mathlib.Nat.{add-sub_cancel_left}
use native.Mathlib.Omega.{arith}
use lib.Ieee.{Float, binary64, neg, add}
use Rattle.lists.specs.Flags.{is_on}
use Rattle.lists.proofs.Counts.{count_most}
use Rattle.lists.proofs.Expansions.{part_length}
use Rattle.gv.proofs.Switched.{bools-length}
use Rattle.gv.proofs.Turns.{turned}
use Rattle.gv.proofs.MlpgGlobalVariance.turn.Goals as goal

pub calc_gv-gv-requires : goal.calc_gv-gv-requires
calc_gv-gv-requires c =
    record { counted = c.requires.1; all = part_length c.args.m.now c.args.p.values c.args.self.length c.requires.0.spaced.room; few = c.requires.0.few; some = c.requires.2 }

pub pull-pull-requires : goal.pull-pull-requires
pull-pull-requires c =
    (omega (arith, c.requires.2, c.requires.1, count_most (map is_on c.args.on.now)), c.requires.0.few, c.requires.0.sets)

pub next_step-requires : goal.next_step-requires
next_step-requires c =
    (rw c.calc_hmmobj_derivative-hmm.auto.m c.requires.0, sym (bools-length c.args.on.now) ∙ c.requires.1.frames)

pub returns : goal.returns
returns c =
    let a = c.args in
    let moments = rw (add-sub_cancel_left a.p.values a.self.length) at c.calc_gv-gv.ensures in
    let hmm = c.calc_hmmobj_derivative-hmm in
    turned a.self a.p a.m.now c.requires.0 _ hmm.ensures.0 (map is_on a.on.now) a.gv_mean a.gv_vari _ _ _ _ c.pull-pull.ensures _ _ _ a.s.step a.s.prev _ c.next_step.ensures
    moments.0 moments.1 hmm.ensures.1 (ap (λ (x : Float). neg (add binary64 hmm.result x)) c.gv_obj.ensures) c.size_after-step.ensures refl
