use Rattle.steps.proofs.Playing.{root-place, root-inside, root_moves, root-small, root-ready, root-path, root-stepped}
use Rattle.steps.proofs.tree.step_once.Goals as goal

pub duration_at-requires : goal.duration_at-requires
duration_at-requires c = root-place _ _ _ _ c.requires.ready c.requires.room_for c.requires.standing _ c.place_at-p.ensures

pub moved_one-d-requires : goal.moved_one-d-requires
moved_one-d-requires c = root_moves _ _ _ _ c.requires.ready c.requires.room_for c.requires.standing _ c.place_at-p.ensures _ c.duration_at.ensures

pub put_duration-requires : goal.put_duration-requires
put_duration-requires c =
    (root-place _ _ _ _ c.requires.ready c.requires.room_for c.requires.standing _ c.place_at-p.ensures, root-small _ _ _ _ c.requires.ready c.requires.room_for c.requires.standing _ c.place_at-p.ensures _ c.duration_at.ensures _ c.moved_one-d.ensures)

pub play_above-requires : goal.play_above-requires
play_above-requires c =
    record { ready = root-ready _ _ _ _ c.requires.ready c.requires.room_for c.requires.standing _ c.place_at-p.ensures _ c.duration_at.ensures _ c.moved_one-d.ensures _ c.put_duration.ensures; p_in_bounds = root-inside _ _ _ _ c.requires.ready c.requires.room_for c.requires.standing _ c.place_at-p.ensures; path = root-path _ _ _ _ c.requires.ready c.requires.room_for c.requires.standing _ c.place_at-p.ensures _ c.duration_at.ensures _ c.moved_one-d.ensures _ c.put_duration.ensures }

pub returns : goal.returns
returns c =
    root-stepped _ _ _ _ c.requires.ready c.requires.room_for c.requires.standing _ c.place_at-p.ensures _ c.duration_at.ensures _ c.moved_one-d.ensures _ c.put_duration.ensures _ c.play_above.ensures
