-- What the calls for runs promise.
use Rattle.std.specs.Prelude.{◌≡◌, Result, Bool, cond, not, ◌||◌, ◌&&◌, ℕ, ◌*◌, length, ltb, leb, eqb, Float}
use mathlib.Core.List.{List, [], ◌∷◌}
use Rattle.lists.specs.Sizes.{most_windows, most_frames}
use Rattle.lists.specs.Totals.{total}
use Rattle.lists.specs.Refusals.{or_else}
use Rattle.lists.specs.Answers.{answer_of, written}
use Rattle.lists.specs.Ends.{counted}
use Rattle.lists.specs.declared.Refusal.{Refusal}
use Rattle.model.specs.Windows.{width_of}
use Rattle.voicing.specs.Mask.{mask_of, weights_of, stream_mask}
use Rattle.mlpg_adjust.specs.Trajectory.{record_size, state_size, gv_on}
use Rattle.mlpg_adjust.specs.Promise.{lengths_of, out_of_range, stream_refusal, floats_a_frame, marks_a_frame, zero_floats, zero_marks}
use Rattle.mlpg_adjust.specs.declared.Stream.{Stream}
use Rattle.runs.specs.declared.Run.{Run}
use Rattle.runs.specs.Runs.{runs_from, runs_of, run_at, pairs_of}
use Rattle.runs.specs.Alone.{run_numbers}

-- ---- `runs`

-- RULES, Refusals: 1, 3, 4 and 5 of a stream's records and durations, the smallest that applies, and 0 for none
unfoldable pub records_refusal : ℕ → Bool → ℕ → ℕ → List ℕ → ℕ
unfolding total
records_refusal v masked windows records ds =
    or_else (cond (ltb windows 1 || ltb most_windows windows) 1 0)
    (or_else (cond (out_of_range v (length ds)) 3 0)
    (or_else (cond (not (eqb records (length ds * record_size v windows masked))) 4 0)
    (cond (ltb most_frames (total ds)) 5 0)))

module _ (v : ℕ) (masked : Bool) (threshold : Float) (windows : ℕ) (records : List Float) (ds : List ℕ) where
  -- the runs of the stream
  unfoldable pub runs_in : List Run
  unfolding runs_from mask_of weights_of
  runs_in = runs_of (stream_mask (record_size v windows masked) records threshold ds)

  -- and then 6 for an output that is shorter than two numbers a run
  unfoldable pub runs_refusal : List ℕ → ℕ
  unfolding records_refusal runs_in
  runs_refusal out = or_else (records_refusal v masked windows (length records) ds) (cond (leb (length runs_in * 2) (length out)) 0 6)

  -- how many runs there are, and two numbers of each
  pub record RunsSay (out : List ℕ) (r : Result ℕ Refusal) (out' : List ℕ) : Type 0 where
    pub answer : counted r ≡ answer_of (runs_refusal out) (length runs_in ∷ [])
    pub places : out' ≡ written (runs_refusal out) (pairs_of runs_in) out

-- ---- `create_run`

-- RULES, One run alone: an output and a work space that are long enough for so many frames
abbrev pub has_room : ℕ → ℕ → ℕ → ℕ → ℕ → Bool
has_room v frames out work marks = (leb (frames * v) out && leb (frames * floats_a_frame) work) && leb (frames * marks_a_frame) marks

module _ (s : Stream) (widths : List ℕ) (coefs records : List Float) (ds : List ℕ) (gv : List Float) (switches : List ℕ) (run : ℕ) where
  -- the runs of the stream, and the one that is asked for
  abbrev pub stream_runs : List Run
  stream_runs = runs_of (stream_mask (state_size s widths) records s.threshold ds)

  abbrev pub asked : Run
  asked = run_at (stream_mask (state_size s widths) records s.threshold ds) run

  -- RULES, One run alone: after 1 to 6 comes 20 where GV is on, 21 where there is no such run, and 22 where the first window is longer than one
  unfoldable pub run_refusal : List Float → List Float → List ℕ → ℕ
  unfolding stream_refusal
  run_refusal out work marks =
      or_else (stream_refusal s widths coefs ds (lengths_of records gv switches [] [] []))
      (or_else (cond (has_room s.v asked.frames (length out) (length work) (length marks)) 0 6)
      (or_else (cond (gv_on s.gv) 20 0)
      (or_else (cond (ltb run (length stream_runs)) 0 21)
      (cond (ltb 1 (width_of widths 0)) 22 0))))

  -- how many frames the run has, its trajectory, and the work space of these frames zeroed
  pub record RunSays (out work : List Float) (marks : List ℕ) (r : Result ℕ Refusal) (out' work' : List Float) (marks' : List ℕ) : Type 0 where
    pub answer : counted r ≡ answer_of (run_refusal out work marks) (asked.frames ∷ [])
    pub numbers : out' ≡ written (run_refusal out work marks) (run_numbers s widths coefs records ds asked) out
    pub space : work' ≡ written (run_refusal out work marks) (zero_floats asked.frames) work
    pub counts : marks' ≡ written (run_refusal out work marks) (zero_marks asked.frames) marks
