use mathlib.Core.Path.{◌≡◌, refl, ap, ◌∙◌}
use Prim.Native.Nat.{ℕ, ◌+◌, ◌<◌, ◌≤◌}
use native.Mathlib.Omega.{arith}
use lib.ListN.{length, get_or}
use Rattle.std.proofs.lemmas.Slice.Zip.{zip_turn, zip_end}
use Rattle.std.proofs.lemmas.List.{length_push}
use Rattle.lists.specs.Totals.{total}
use Rattle.voicing.proofs.Passes.{passed-fits}
use Rattle.voicing.proofs.Switches.{switching, switched, switching-room, switching-next}
use Rattle.voicing.proofs.flags.put_switches.Goals as goal
use Rattle.voicing.proofs.flags.put_switches.Goals.{In-Some, After-voiced_in-closed}

module _ (c : In-Some) where
  -- a state with its switch
  turn : (length c.loop-x.yielded < length c.args.durations.now) × (length c.loop-x.yielded < length c.args.switches.now)
      × ((d : ℕ) → c.in-Some.x.now ≡ get_or c.args.durations.now (length c.loop-x.yielded) d) × ((d : ℕ) → c.in-Some.switch.now ≡ get_or c.args.switches.now (length c.loop-x.yielded) d)
  turn = zip_turn c.args.durations.now c.args.switches.now c.loop-x.yielded c.into_iter-x-iterator.result c.loop-x.x-iterator c.next.new.self c.next.result (cc) (cc) c.loop-x.yielded_by (c.in-Some.x, c.in-Some.switch) c.in-Some.is c.next.ensures.steps

  -- whose frames are frames of the stream
  fits : c.loop-x.f + c.in-Some.x.now ≤ total c.args.durations.now
  fits = passed-fits c.loop-x.invariant.passed turn.0 (turn.2 0)

begins : (c : After-voiced_in-closed) → c.args.frames + c.loop-x.k ≡ total c.args.durations.now + c.loop-x.k
begins c = ap (λ (n : ℕ). n + c.loop-x.k) c.requires.1

-- and there is room for its switch at those that are voiced
module _ (c : After-voiced_in-closed) (t : length c.loop-x.yielded < length c.args.durations.now) (o : c.in-Some.x.now ≡ get_or c.args.durations.now (length c.loop-x.yielded) 0) where
  room : c.args.frames + c.loop-x.k + c.voiced_in-closed.result ≤ length c.loop-x.flags
  room = switching-room c.loop-x.invariant t o c.requires.0 refl c.voiced_in-closed.ensures (begins c)

  within : c.args.frames + c.loop-x.k + c.voiced_in-closed.result ≤ length c.args.flags.now
  within = omega (arith, room, c.loop-x.invariant.long)

pub loop-x-init : goal.loop-x-init
loop-x-init c = switching _ _ _

pub voiced_in-closed-requires : goal.voiced_in-closed-requires
voiced_in-closed-requires c = omega (arith, fits (goal.at.voiced_in-closed-requires c).In-Some, c.requires.0.framed.room, c.loop-x.invariant.long)

pub overflow_add-to : goal.overflow_add-to
overflow_add-to c = let t = turn (goal.at.overflow_add-to c).In-Some in omega (arith, within (goal.at.overflow_add-to c).After-voiced_in-closed t.0 (t.2 0), c.well_formed)

pub slice_bounds-fill-end : goal.slice_bounds-fill-end
slice_bounds-fill-end c = let t = turn (goal.at.slice_bounds-fill-end c).In-Some in room (goal.at.slice_bounds-fill-end c).After-voiced_in-closed t.0 (t.2 0)

pub overflow_add-f : goal.overflow_add-f
overflow_add-f c = omega (arith, fits (goal.at.overflow_add-f c).In-Some, c.requires.0.framed.frames)

pub loop-x-preserved : goal.loop-x-preserved
loop-x-preserved c =
    let t = turn (goal.at.loop-x-preserved c).In-Some in
    rw length_push (switching-next c.loop-x.invariant t.0 (t.2 0) c.requires.0 refl c.voiced_in-closed.ensures (begins (goal.at.loop-x-preserved c).After-voiced_in-closed) _ _ (c.from.ensures ∙ t.3 0) c.fill.ensures)

pub returns : goal.returns
returns c =
    let e = zip_end c.args.durations.now c.args.switches.now c.loop-x.yielded c.into_iter-x-iterator.result c.loop-x.x-iterator c.next.new.self c.next.result (cc) (cc) c.loop-x.yielded_by c.in-None.is c.next.ensures.steps in
    rw c.requires.1 (switched c.loop-x.invariant (omega (arith, e, c.requires.0.each)))
