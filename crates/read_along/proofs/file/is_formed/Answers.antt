use mathlib.Core.Path.{◌≡◌, sym, ◌∙◌}
use Prim.Native.Nat.{◌<◌}
use mathlib.Core.Bool.{true}
use native.Mathlib.Omega.{arith}
use borrow.Author.Tests.{not-true, not-false}
use Rattle.lists.specs.Bytes.{Bytes, starts_with}
use Rattle.read_along.specs.Format.{mark}
use Rattle.read_along.proofs.Filing.{number-below, not_marked, other-version, other_length, as_touching}
use Rattle.std.proofs.Common.{ap}
use Rattle.std.proofs.Common.{not}
use Rattle.read_along.proofs.file.is_formed.Goals as goal
use Rattle.read_along.proofs.file.is_formed.Goals.{After-count_of-count, Else-not-starts_with}

marked : (c : Else-not-starts_with) → starts_with mark c.args.bytes.now ≡ true
marked c = sym c.starts_with.ensures ∙ not-false _ (ap not c.if-not-starts_with.false)

small : (c : After-count_of-count) → c.count_of-count.result < 4294967296
small c =
    let b : Bytes c.args.bytes.now = λ j. omega (arith, c.type_inv.bytes j) in
    number-below c.args.bytes.now b _ 5 c.count_of-count.ensures

pub returns-then-not-starts_with : goal.returns-then-not-starts_with
returns-then-not-starts_with c = not_marked _ (sym c.starts_with.ensures ∙ not-true _ (ap not c.if-not-starts_with.true))

pub returns-then-little_endian-ne1 : goal.returns-then-little_endian-ne1
returns-then-little_endian-ne1 c = other-version _ (marked (goal.at.returns-then-little_endian-ne1 c).Else-not-starts_with) _ c.little_endian.ensures c.if-little_endian-ne1.true

pub overflow_mul-count : goal.overflow_mul-count
overflow_mul-count c = record { fits = omega (arith, small (goal.at.overflow_mul-count c).After-count_of-count) }

pub overflow_add-count : goal.overflow_add-count
overflow_add-count c = record { fits = omega (arith, small (goal.at.overflow_add-count c).After-count_of-count) }

pub returns-then-bytes-count : goal.returns-then-bytes-count
returns-then-bytes-count c =
    other_length _ (marked (goal.at.returns-then-bytes-count c).Else-not-starts_with) _ c.little_endian.ensures c.if-little_endian-ne1.false _ c.count_of-count.ensures c.if-bytes-count.true

pub returns : goal.returns
returns c =
    c.touch.ensures ∙ as_touching _ (marked (goal.at.returns c).Else-not-starts_with) _ c.little_endian.ensures c.if-little_endian-ne1.false _ c.count_of-count.ensures c.if-bytes-count.false
