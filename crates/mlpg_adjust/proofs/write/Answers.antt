use mathlib.Core.Path.{◌≡◌, sym, ap, subst, ◌∙◌}
use Prim.Native.Nat.{ℕ, ◌*◌, ◌≤◌}
use native.Mathlib.Nat.{mul-le-mul_left}
use native.Mathlib.Omega.{arith}
use lib.Seq.{length-take-le}
use Rattle.lists.specs.Totals.{total}
use Rattle.mlpg_adjust.specs.Promise.{lengths_of}
use Rattle.mlpg_adjust.specs.Inner.Groups.{Room}
use Rattle.mlpg_adjust.proofs.Ways.{frames_are, numbers-written, zeroed}
use Rattle.mlpg_adjust.proofs.write.Goals as goal
use Rattle.mlpg_adjust.proofs.write.Goals.{After-total_u32-frames}

-- so many frames, and the room for them
module _ (c : After-total_u32-frames) where
  count : c.total_u32-frames.result ≡ total c.args.inputs.durations.now
  count = frames_are _ _ c.total_u32-frames.ensures c.requires.0.few

  room : let a = c.args in Room a.stream.v c.total_u32-frames.result (lengths_of a.inputs.records.now a.inputs.gv.now a.inputs.switches.now a.out.now a.work.now a.marks.now)
  room = let a = c.args in subst (λ (frames : ℕ). Room a.stream.v frames (lengths_of a.inputs.records.now a.inputs.gv.now a.inputs.switches.now a.out.now a.work.now a.marks.now)) (sym count) c.requires.2

  few : c.total_u32-frames.result ≤ 65536
  few = rw count c.requires.0.frames

pub render-requires : goal.render-requires
render-requires c =
    let r = room (goal.at.render-requires c).After-total_u32-frames in
    (c.requires.0, c.requires.1, length-take-le _ _ r.numbers ∙ ap (λ (n : ℕ). n * c.args.stream.v) (count (goal.at.render-requires c).After-total_u32-frames), length-take-le _ _ r.floats ∙ ap (λ (n : ℕ). n * 48) (count (goal.at.render-requires c).After-total_u32-frames), length-take-le _ _ r.counts ∙ ap (λ (n : ℕ). n * 4) (count (goal.at.render-requires c).After-total_u32-frames))

pub returns : goal.returns
returns c =
    let k = c.render in
    let a = c.args in
    let r = room (goal.at.returns c).After-total_u32-frames in (
      numbers-written a.stream a.inputs.widths.now a.inputs.coefficients.now a.inputs.records.now a.inputs.durations.now a.inputs.gv.now a.inputs.switches.now c.total_u32-frames.result k.new.out a.out.now (count (goal.at.returns c).After-total_u32-frames) k.ensures,
      zeroed _ _ _ k.new.work a.work.now _ (ap (λ (n : ℕ). n * 48) (count (goal.at.returns c).After-total_u32-frames)) (k.auto.work ∙ length-take-le _ _ r.floats) r.floats c.fill.ensures,
      zeroed _ _ _ k.new.marks a.marks.now _ (ap (λ (n : ℕ). n * 4) (count (goal.at.returns c).After-total_u32-frames)) (k.auto.marks ∙ length-take-le _ _ r.counts) r.counts c.fill-2.ensures,
    )

pub overflow_mul-numbers : goal.overflow_mul-numbers
overflow_mul-numbers c = omega (arith, few (goal.at.overflow_mul-numbers c).After-total_u32-frames, mul-le-mul_left c.total_u32-frames.result c.requires.0.most_v)

pub overflow_mul-floats : goal.overflow_mul-floats
overflow_mul-floats c = omega (arith, few (goal.at.overflow_mul-floats c).After-total_u32-frames)

pub overflow_mul-counts : goal.overflow_mul-counts
overflow_mul-counts c = omega (arith, few (goal.at.overflow_mul-counts c).After-total_u32-frames)

pub slice_bounds-render-end : goal.slice_bounds-render-end
slice_bounds-render-end c = omega (arith, (room (goal.at.slice_bounds-render-end c).After-total_u32-frames).numbers)

pub slice_bounds-render-end-2 : goal.slice_bounds-render-end-2
slice_bounds-render-end-2 c = sym (length-take-le _ _ (omega (arith, (room (goal.at.slice_bounds-render-end-2 c).After-total_u32-frames).numbers)))

pub slice_bounds-render-end-3 : goal.slice_bounds-render-end-3
slice_bounds-render-end-3 c = (room (goal.at.slice_bounds-render-end-3 c).After-total_u32-frames).floats

pub slice_bounds-render-end-4 : goal.slice_bounds-render-end-4
slice_bounds-render-end-4 c = sym (length-take-le _ _ (room (goal.at.slice_bounds-render-end-4 c).After-total_u32-frames).floats)

pub slice_bounds-render-end-5 : goal.slice_bounds-render-end-5
slice_bounds-render-end-5 c = (room (goal.at.slice_bounds-render-end-5 c).After-total_u32-frames).counts

pub slice_bounds-render-end-6 : goal.slice_bounds-render-end-6
slice_bounds-render-end-6 c = sym (length-take-le _ _ (room (goal.at.slice_bounds-render-end-6 c).After-total_u32-frames).counts)
