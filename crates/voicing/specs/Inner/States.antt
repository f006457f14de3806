-- What only the contracts of closing up say: one state's pairs at the closed-up places of its frames.
use Rattle.std.specs.Prelude.{◌≡◌, List, get_or, replicate, Float}
use Prim.Native.Nat.{ℕ, zero, suc, ◌+◌, ◌-◌, ◌*◌, ◌≤◌}
use Rattle.std.proofs.lemmas.List.Edits.{sets}
use Rattle.std.specs.Float.{nan}
use Rattle.lists.specs.Build.{build}
use Rattle.model.specs.Pair.{ivar_of}
use Rattle.region.specs.Region.{ivars_at, size_of}
use Rattle.region.specs.declared.Layout.{Layout}
use Rattle.region.specs.declared.Group.{Group}
use Rattle.voicing.specs.Boundaries.{shut}
use Rattle.voicing.specs.Windows.{reach_before, reach_after}
use Rattle.voicing.specs.declared.closing.Plan.{Plan}
use Rattle.voicing.specs.declared.closing.Span.{Span}
use Rattle.voicing.specs.declared.closing.Ends.{Ends}

-- the plan of a group's pairs of so many windows
abbrev pub plan_of : ℕ → Layout → Group → Plan
plan_of windows g c = record { v = c.v; lanes = c.lanes; half = c.v * windows; n = g.n; ivars = ivars_at g; size = size_of g }

-- an inverse variance at d frames, of which the first `before` and the last `after` get 0
unfoldable pub shut_ends : Ends → Float → List Float
unfolding build
shut_ends e v = build (λ j. shut e.before e.after j (e.d - 1 - j) v) e.d

-- a region in which a mean and an inverse variance stand at the places of a state's frames
abbrev pub put_pair : Ends → ℕ → ℕ → Float → Float → List Float → List Float
put_pair e place ivars mean ivar m = sets (sets m place (replicate e.d mean)) ivars (shut_ends e ivar)

-- of a window's boundaries so much is left at the ends of the state's frames
abbrev pub ends_of : List ℕ → Span → ℕ → Ends
ends_of widths t i = record { d = t.d; before = reach_before widths i - t.left; after = reach_after widths i - t.right }

module _ (records : List Float) (p : Plan) (mean : ℕ) (widths : List ℕ) (t : Span) (l : ℕ) where
  -- a region in which the first so many windows got component l's pairs of a state, whose means begin at number `mean` of the records: window i has n places from
  -- i * n and from ivars + i * n on, and the state's frames begin at the k-th of them
  unfoldable pub put_pairs : ℕ → List Float → List Float
  unfolding shut_ends
  put_pairs zero m = m
  put_pairs (suc i) m =
      put_pair (ends_of widths t i) (i * p.n + t.k) (p.ivars + (i * p.n + t.k)) (get_or records (mean + i * p.v + l) nan) (ivar_of (get_or records (mean + i * p.v + p.half + l) nan)) (put_pairs i m)

-- the pairs of a state's means from number `mean` on are there, and room for them
pub record StateFits (p : Plan) (windows records floats mean : ℕ) (t : Span) : Type 0 where
  pub most-v : p.v ≤ 64
  pub half_at : p.half ≡ p.v * windows
  pub read : mean + p.lanes + p.half + p.half ≤ records + p.v
  pub voiced : t.k + t.d ≤ p.n
  pub ivars-at : p.ivars ≡ windows * p.n
  pub ivars-end : p.ivars + p.ivars ≤ p.size
  pub room : p.lanes * p.size ≤ floats
