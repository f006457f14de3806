use mathlib.Core.Path.{◌≡◌, ap, ◌∙◌}
use Prim.Native.Nat.{ℕ, ◌≤◌}
use native.Mathlib.Omega.{arith}
use borrow.Author.Rules.{rules}
use Rattle.job.specs.Format.{version_of, state_bytes, floats_at, shortest_at}
use Rattle.job.proofs.Damages.{state-most}
use Rattle.job.proofs.Pairs.{front-few, read-room, read_again, read-front, create_is}
use Rattle.job.proofs.fit_states.Goals as goal
use Rattle.job.proofs.fit_states.Goals.{After-read_floats, After-state_bytes-step, Start}

-- the version and the bytes of a state are read
module _ (c : After-state_bytes-step) where
  abbrev entry : Start
  entry = c.before.before.before.before.before.before

  step_is : c.state_bytes-step.result ≡ state_bytes (version_of c.args.bytes.now)
  step_is = c.state_bytes-step.ensures ∙ ap state_bytes c.little_endian-version.ensures

  step-few : c.state_bytes-step.result ≤ 20
  step-few = rw c.state_bytes-step.ensures (state-most c.little_endian-version.result)

-- where the means have been read, after them the variances, and after them the shortest
abbrev begun : After-read_floats → After-state_bytes-step
begun c = record { before = c.before.before.before; type_inv = search rules }

pub read_floats-requires : goal.read_floats-requires
read_floats-requires c = let h = c.requires in (omega arith, omega (arith, step-few (goal.at.read_floats-requires c).After-state_bytes-step), front-few _ _ _ h h)

pub read_floats-requires-2 : goal.read_floats-requires-2
read_floats-requires-2 c = let h = c.requires in (omega arith, omega (arith, step-few (goal.at.read_floats-requires-2 c).After-state_bytes-step), front-few _ _ _ h h)

pub slice_bounds-means-end-2 : goal.slice_bounds-means-end-2
slice_bounds-means-end-2 c = read-room _ _ c.read_floats.new.into c.requires c.read_floats.auto.into

pub slice_bounds-create-end : goal.slice_bounds-create-end
slice_bounds-create-end c = read_again _ _ c.read_floats.new.into c.requires c.read_floats.auto.into

pub slice_bounds-varis-end-2 : goal.slice_bounds-varis-end-2
slice_bounds-varis-end-2 c = read-room _ _ c.read_floats-2.new.into c.requires c.read_floats-2.auto.into

pub slice_bounds-create-end-2 : goal.slice_bounds-create-end-2
slice_bounds-create-end-2 c = read_again _ _ c.read_floats-2.new.into c.requires c.read_floats-2.auto.into

pub slice_bounds-shortest-end-2 : goal.slice_bounds-shortest-end-2
slice_bounds-shortest-end-2 c = read-room _ _ c.read_shortest.new.into (entry (begun (goal.at.slice_bounds-shortest-end-2 c).After-read_floats)).requires c.read_shortest.auto.into

pub slice_bounds-create-end-3 : goal.slice_bounds-create-end-3
slice_bounds-create-end-3 c = read_again _ _ c.read_shortest.new.into (entry (begun (goal.at.slice_bounds-create-end-3 c).After-read_floats)).requires c.read_shortest.auto.into

pub returns : goal.returns
returns c =
    let h = c.requires in
    let bytes = c.args.bytes.now in
    let same : (at : ℕ) → floats_at bytes at c.state_bytes-step.result c.args.n ≡ floats_at bytes at (state_bytes (version_of bytes)) c.args.n = λ at. ap (λ (w : ℕ). floats_at bytes at w c.args.n) (step_is (goal.at.returns c).After-state_bytes-step) in
    create_is _ _ _ _ _ _ _ _ _ _ c.create.result _ _
    (read-front _ _ c.read_floats.new.into h c.read_floats.auto.into (floats_at bytes 15 c.state_bytes-step.result) c.read_floats.ensures ∙ same 15)
    (read-front _ _ c.read_floats-2.new.into h c.read_floats-2.auto.into (floats_at bytes 23 c.state_bytes-step.result) c.read_floats-2.ensures ∙ same 23)
    (read-front _ _ c.read_shortest.new.into h c.read_shortest.auto.into (shortest_at c.little_endian-version.result bytes) c.read_shortest.ensures ∙ ap (λ (v : ℕ). shortest_at v bytes c.args.n) c.little_endian-version.ensures)
    c.of_bytes.ensures
    c.create.ensures
