use mathlib.Core.Path.{◌≡◌, sym, ap, ◌∙◌}
use mathlib.Core.Bool.{true}
use mathlib.Core.List.{List}
use Prim.Native.Nat.{ℕ, ◌*◌, ◌<◌}
use native.Mathlib.Omega.{arith}
use borrow.Author.Tests.{not-false}
use lib.ListN.{length}
use Rattle.lists.specs.Bytes.{Bytes}
use Rattle.read_along.specs.Format.{spans_in, formed}
use Rattle.read_along.specs.Promise.{all_ends}
use Rattle.read_along.proofs.Lengths.{ends-long}
use Rattle.read_along.proofs.Filing.{number-below, in_count, formed_0}
use Rattle.read_along.proofs.Ways.{writes_short, writes_done}
use Rattle.std.proofs.Common.{not}
use Rattle.read_along.proofs.file.read.Goals as goal
use Rattle.read_along.proofs.file.read.Goals.{After-count_of-count}

module _ (c : After-count_of-count) where
  abbrev bytes : List ℕ
  bytes = c.args.bytes.now

  well : formed bytes ≡ true
  well = sym c.is_formed.ensures ∙ not-false _ (ap not c.if-not-is_formed.false)

  small : c.count_of-count.result < 4294967296
  small =
      let b : Bytes bytes = λ j. omega (arith, c.type_inv.bytes j) in
      number-below bytes b _ 5 c.count_of-count.ensures

  long : length (all_ends (spans_in bytes)) ≡ 2 * c.count_of-count.result
  long = ends-long (spans_in bytes) ∙ ap (λ (n : ℕ). 2 * n) (in_count bytes ∙ sym c.count_of-count.ensures)

pub returns : goal.returns
returns c =
    writes_done _ _ _ _ _ _ (formed_0 _ (well (goal.at.returns c).After-count_of-count)) (omega (arith, long (goal.at.returns c).After-count_of-count, c.if-spans-count.false)) c.take_spans.ensures (c.count_of-count.ensures ∙ sym (in_count (bytes (goal.at.returns c).After-count_of-count)))

pub overflow_mul-count : goal.overflow_mul-count
overflow_mul-count c = record { fits = omega (arith, small (goal.at.overflow_mul-count c).After-count_of-count) }

pub returns-then-spans-count : goal.returns-then-spans-count
returns-then-spans-count c = writes_short _ _ _ _ (formed_0 _ (well (goal.at.returns-then-spans-count c).After-count_of-count)) (omega (arith, long (goal.at.returns-then-spans-count c).After-count_of-count, c.if-spans-count.true))

pub overflow_cast-result : goal.overflow_cast-result
overflow_cast-result c = record { fits = omega (arith, small (goal.at.overflow_cast-result c).After-count_of-count) }
