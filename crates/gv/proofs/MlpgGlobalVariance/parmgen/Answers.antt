use mathlib.Core.Path.{sym, ◌∙◌}
use mathlib.Core.List.{map}
use native.Mathlib.Omega.{arith}
use borrow.Author.Tests.{eq-eqb, ne_eqb}
use Rattle.lists.specs.Frames.{count}
use Rattle.lists.specs.Flags.{is_on}
use Rattle.lists.proofs.Expansions.{part_length}
use Rattle.gv.proofs.Turns.{rescaled-long, five-turned}
use Rattle.gv.proofs.MlpgGlobalVariance.parmgen.Goals as goal

pub returns-then-self-eq0 : goal.returns-then-self-eq0
returns-then-self-eq0 c = rw (eq-eqb (count (map is_on c.args.on.now)) 0 (sym c.requires.1.number ∙ c.if-self-eq0.true))

pub overflow_add-values_end : goal.overflow_add-values_end
overflow_add-values_end c = omega (arith, c.well_formed, c.requires.0.spaced)

pub offset_bounds-m-values : goal.offset_bounds-m-values
offset_bounds-m-values c = omega (arith, c.well_formed, c.requires.0.spaced)

pub slice_bounds-conv_gv-end : goal.slice_bounds-conv_gv-end
slice_bounds-conv_gv-end c = c.requires.0.spaced.room

pub conv_gv-requires : goal.conv_gv-requires
conv_gv-requires c =
    record { counted = c.requires.1; all = part_length c.args.m.now c.args.p.values c.args.self.length c.requires.0.spaced.room; few = c.requires.0.few; some = omega (arith, c.if-self-eq0.false) }

pub five_turns-requires : goal.five_turns-requires
five_turns-requires c =
    let a = c.args in
    (rw (rescaled-long a.self a.p (map is_on a.on.now) a.gv_mean a.gv_vari a.m.now c.requires.0 _ c.conv_gv.ensures) c.requires.0, c.requires.1, omega (arith, c.if-self-eq0.false))

pub returns : goal.returns
returns c =
    let a = c.args in
    rw (ne_eqb (count (map is_on a.on.now)) 0 (rw c.requires.1.number at c.if-self-eq0.false))
    (five-turned a.self a.p (map is_on a.on.now) a.gv_mean a.gv_vari a.m.now c.requires.0 _ c.conv_gv.ensures _ c.five_turns.ensures)
