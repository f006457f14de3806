-- Of calls of `hejmirov_align` that are accepted: no drift over a chapter, which asks nothing of the caller.
use mathlib.Core.Path.{◌≡◌, sym}
use mathlib.Core.Bool.{true}
use mathlib.Core.List.{List}
use Prim.Native.Nat.{ℕ, ◌+◌, ◌*◌, ◌≤◌, ◌<◌}
use lib.ListN.{length, get_or}
use lib.Ieee.{Float, nan, le}
use Rattle.lists.specs.Totals.{gap}
use Rattle.floats.specs.Numbers.{nought}
use Rattle.steps.specs.Steps.{States, states}
use Rattle.duration.specs.Align.{target_of}
use Rattle.duration.specs.Drift.{Fraction, HalvesUp, frames_before, group_least, total_at, NoDrift}
use Rattle.duration.proofs.Chapters as chapter
use Rattle.hejmirov.specs.Promise.{AlignCallSays}

module _ (ss : States) (nstate : ℕ) (ends : List Float) (out work : List ℕ) (written changes : ℕ) (out' work' : List ℕ) (written' changes' : ℕ)
    (a : AlignCallSays ss nstate ends out work written changes 0 out' work' written' changes') where
  -- at each label with a given end, of the durations that were handed out
  pub no_drift : NoDrift nstate ends ss.shortest out'
  no_drift = a.says.on_time (sym a.gives.answers)

  -- with room, twice the distance of end and total is at most 1
  pub half_a_frame : (i : ℕ) → i < length ends → le nought (get_or ends i nan) ≡ true → group_least nstate ends ss.shortest i < target_of (get_or ends i nan) (frames_before nstate ends out' i)
      → (n : ℕ) × ((d : ℕ) × (Fraction (get_or ends i nan) n d × (2 * gap (total_at nstate out' i * d) n ≤ d)))
  half_a_frame = chapter.half_a_frame nstate ends ss.shortest out' no_drift

  -- a label without room, and a later one with room
  pub right_again : (i j : ℕ) → i < j → j < length ends → le nought (get_or ends i nan) ≡ true → le nought (get_or ends j nan) ≡ true
      → target_of (get_or ends i nan) (frames_before nstate ends out' i) ≤ group_least nstate ends ss.shortest i
      → group_least nstate ends ss.shortest j < target_of (get_or ends j nan) (frames_before nstate ends out' j)
      → (total_at nstate out' i ≡ frames_before nstate ends out' i + group_least nstate ends ss.shortest i) × HalvesUp (get_or ends j nan) (total_at nstate out' j)
  right_again = chapter.right_again nstate ends ss.shortest out' no_drift

  -- another call over the same ends, of as many states a label and with the same shortest, with whatever means and variances: the same totals
  pub however_fitted : (ns us : List Float) (other space : List ℕ) (w c : ℕ) (other' space' : List ℕ) (w' c' : ℕ)
      → AlignCallSays (states ns us ss.shortest) nstate ends other space w c 0 other' space' w' c'
      → (i : ℕ) → i < length ends → le nought (get_or ends i nan) ≡ true → total_at nstate out' i ≡ total_at nstate other' i
  however_fitted ns us other space w c other' space' w' c' b = chapter.totals_same nstate ends ss.shortest out' other' no_drift (b.says.on_time (sym b.gives.answers))
