use mathlib.Core.Path.{◌≡◌}
use mathlib.Core.Bool.{cond}
use Prim.Native.Nat.{ℕ, ◌≤◌}
use lib.ListN.{length}
use borrow.Author.Rules.{rules}
use Rattle.std.proofs.lemmas.Result.{err_from_is_err_and}
use Rattle.lists.specs.Totals.{total}
use Rattle.mlpg_adjust.specs.Promise.{create_refusal}
use Rattle.mlpg_adjust.proofs.Ways.{InRange, frames_are, refused_first, range_passed, refused_6}
use Rattle.mlpg_adjust.proofs.refusing.check_create.Goals as goal
use Rattle.mlpg_adjust.proofs.refusing.check_create.Goals.{After-is_short, After-total_u32-frames}

pub returns-in_err-check_stream : goal.returns-in_err-check_stream
returns-in_err-check_stream c = let p = err_from_is_err_and c.from_residual.result c.from_residual.ensures.1 in rw (p.1, p.2) (refused_first _ _ _ _ _ _ c.in_err-check_stream.ensures)

-- the range of what is not refused with 1 to 5, and its frames
module _ (c : After-total_u32-frames) where
  range : let a = c.args in InRange a.stream.v (length a.durations.now) × (total a.durations.now ≤ 65536)
  range = range_passed _ _ _ _ _ c.in_ok-check_stream.ensures

  count : c.total_u32-frames.result ≡ total c.args.durations.now
  count = frames_are _ _ c.total_u32-frames.ensures range.0.few

pub is_short-requires : goal.is_short-requires
is_short-requires c = ((range (goal.at.is_short-requires c).After-total_u32-frames).0.most_v, rw (count (goal.at.is_short-requires c).After-total_u32-frames) (range (goal.at.is_short-requires c).After-total_u32-frames).1)

abbrev after_total_u32_frames_of_after_is_short : After-is_short → After-total_u32-frames
after_total_u32_frames_of_after_is_short c = record { before = c.before.before; type_inv = search rules }

six : (c : After-is_short) → let a = c.args in ◌≡◌ {A = ℕ} (cond c.is_short.result 6 0) (create_refusal a.stream a.widths.now a.coefficients.now a.durations.now a.n)
six c = refused_6 _ _ _ _ _ c.in_ok-check_stream.ensures _ (count (after_total_u32_frames_of_after_is_short c)) _ c.is_short.ensures

pub returns-then-is_short : goal.returns-then-is_short
returns-then-is_short c = rw c.if-is_short.true at (six (goal.at.returns-then-is_short c).After-is_short)

pub returns : goal.returns
returns c = rw c.if-is_short.false at (six (goal.at.returns c).After-is_short)
