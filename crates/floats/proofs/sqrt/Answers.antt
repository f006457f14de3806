use mathlib.Core.Path.{sym, ap, ◌∙◌, subst}
use lib.Arith.{lt_of_le-ne}
use lib.Dec.{T}
use lib.Ieee.{Float, binary64, fits, of_bits, div}
use lib.Ieee.Bits.{of_bits-to_bits}
use Rattle.floats.specs.Root.{sqrt_of}
use Rattle.floats.proofs.Fields.{is-nan, no_nan, not_of}
use Rattle.floats.proofs.Roots.{zero-root, infinite_root, negative_root, positive_pattern}
use Rattle.floats.proofs.sqrt.Goals as goal
use Rattle.floats.proofs.sqrt.Goals.{Start}

abbrev x : Start → Float
x c = c.args.x

-- what owning an `f64` tells: the format holds it
held : (c : Start) → T (fits binary64 (x c))
held c = subst T (sym c.well_formed.0.1) tt

pub returns-then-x : goal.returns-then-x
unfolding div of_bits sqrt_of
returns-then-x c = ap sqrt_of (sym (is-nan (x c.before) c.if-x.true))

pub returns-then-x-2 : goal.returns-then-x-2
returns-then-x-2 c = zero-root (x c.before.before) c.if-x-2.true

pub float_to_bits-bits : goal.float_to_bits-bits
float_to_bits-bits c = not_of (no_nan (x c.before.before) c.if-x.false)

pub returns-then-bits-eq9218868437227405312 : goal.returns-then-bits-eq9218868437227405312
returns-then-bits-eq9218868437227405312 c =
    let s = c.before.before.before in
    infinite_root (x s) (held (goal.at.returns-then-bits-eq9218868437227405312 c).Start) (no_nan (x s) c.if-x.false) c.if-x-2.false c.if-bits-eq9218868437227405312.true

pub returns-then-bits-gt9218868437227405312 : goal.returns-then-bits-gt9218868437227405312
unfolding div of_bits
returns-then-bits-gt9218868437227405312 c =
    let s = c.before.before.before.before in
    negative_root (x s) (held (goal.at.returns-then-bits-gt9218868437227405312 c).Start) (no_nan (x s) c.if-x.false) c.if-x-2.false c.if-bits-gt9218868437227405312.true

pub finite_root-requires : goal.finite_root-requires
finite_root-requires c =
    let s = c.before.before.before.before in
    (positive_pattern (x s) (held (goal.at.finite_root-requires c).Start) (no_nan (x s) c.if-x.false) c.if-x-2.false, lt_of_le-ne c.if-bits-gt9218868437227405312.false c.if-bits-eq9218868437227405312.false)

pub returns : goal.returns
returns c =
    let s = c.before.before.before.before.before in
    c.finite_root.ensures ∙ ap sqrt_of (of_bits-to_bits binary64 (x s) (held (goal.at.returns c).Start))
