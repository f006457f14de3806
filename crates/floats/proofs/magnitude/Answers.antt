use mathlib.Core.Path.{sym, ap, ◌∙◌, subst}
use lib.Dec.{T}
use lib.Bits.{and_mask}
use lib.Ieee.{Float, binary64, fits, nan_bits, of_bits, to_bits, div}
use Rattle.floats.specs.Order.{abs_of}
use Rattle.floats.proofs.Fields.{is-nan, no_nan, not_of, abs_of-bits, abs_bits_no_nan}
use Rattle.floats.proofs.magnitude.Goals as goal
use Rattle.floats.proofs.magnitude.Goals.{Start}

abbrev x : Start → Float
x c = c.args.x

-- what owning an `f64` tells: the format holds it
held : (c : Start) → T (fits binary64 (x c))
held c = subst T (sym c.well_formed.0.1) tt

pub returns-then-x : goal.returns-then-x
unfolding div of_bits abs_of
returns-then-x c = ap abs_of (sym (is-nan (x c.before) c.if-x.true))

pub float_to_bits-result : goal.float_to_bits-result
float_to_bits-result c = not_of (no_nan (x c.before) c.if-x.false)

pub float_from_bits-result : goal.float_from_bits-result
float_from_bits-result c =
    let v = x c.before in
    not_of (ap (nan_bits binary64) (and_mask (to_bits binary64 v) 63) ∙ abs_bits_no_nan v (held (goal.at.float_from_bits-result c).Start) (no_nan v c.if-x.false))

pub returns : goal.returns
returns c =
    let v = x c.before in
    ap (of_bits binary64) (and_mask (to_bits binary64 v) 63) ∙ abs_of-bits v (held (goal.at.returns c).Start)
