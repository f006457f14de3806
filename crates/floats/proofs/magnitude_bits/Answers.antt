use mathlib.Core.Path.{◌≡◌, sym, ap, ◌∙◌, subst}
use mathlib.Core.Bool.{false}
use Prim.Native.Nat.{ℕ, ◌%◌, ◌^◌}
use native.Mathlib.Omega.{arith}
use lib.Dec.{T}
use lib.Bits.{and_mask}
use lib.Ieee.{Float, binary64, fits, is_nan, of_bits, to_bits}
use lib.Ieee.Bits.{to_bits-of_bits, nan_bits_is}
use Rattle.floats.specs.Order.{abs_of}
use Rattle.floats.proofs.Fields.{is-nan, no_nan, not_of, abs_of-bits, abs_bits_no_nan}
use Rattle.floats.proofs.magnitude_bits.Goals as goal
use Rattle.floats.proofs.magnitude_bits.Goals.{Start}

abbrev x : Start → Float
x c = c.args.x

-- what owning an `f64` tells: the format holds it
held : (c : Start) → T (fits binary64 (x c))
held c = subst T (sym c.well_formed.0.1) tt

pub returns-then-x : goal.returns-then-x
unfolding to_bits abs_of
returns-then-x c = ap (λ (v : Float). to_bits binary64 (abs_of v)) (sym (is-nan (x c.before) c.if-x.true))

pub float_to_bits-result : goal.float_to_bits-result
float_to_bits-result c = not_of (no_nan (x c.before) c.if-x.false)

pub returns : goal.returns
returns c =
    let v = x c.before in
    let n : ℕ = to_bits binary64 v % 2 ^ 63 in
    let clear : is_nan (of_bits binary64 n) ≡ false = sym (nan_bits_is binary64 n) ∙ abs_bits_no_nan v (held (goal.at.returns c).Start) (no_nan v c.if-x.false) in
    and_mask (to_bits binary64 v) 63 ∙ sym (to_bits-of_bits binary64 n (omega arith) (not_of clear)) ∙ ap (to_bits binary64) (abs_of-bits v (held (goal.at.returns c).Start))
