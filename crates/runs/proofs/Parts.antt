-- Some states of a stream by themselves: their columns, their mask and their equations are parts of the whole stream's.
use mathlib.Core.Path.{◌≡◌, sym, ap, ◌∙◌}
use mathlib.Core.Bool.{Bool, true, false}
use mathlib.Core.List.{List, [], append-nil, map}
use Prim.Native.Nat.{ℕ, ◌+◌, ◌-◌, ◌*◌, ◌/◌, ◌%◌, ◌<◌, ◌≤◌}
use native.Mathlib.Nat.{add-mul, mul_comm, mul-le-mul, mul-le-mul_right, mod-lt}
use native.Mathlib.Omega.{arith}
use borrow.Author.Tests.{le-ltb, eq-eqb}
use lib.ListN.{length, take, drop, get_or, replicate, length-replicate, length-map}
use lib.Seq.{take_all, take_at, get_or-take, get_or-drop}
use lib.Ieee.{Float, nan}
use Rattle.lists.specs.Totals.{total}
use Rattle.lists.specs.Parts.{part}
use Rattle.lists.specs.Frames.{expand, fill}
use Rattle.lists.specs.Answers.{written}
use Rattle.lists.proofs.Builds.{build-same, part-build}
use Rattle.lists.proofs.Chosen.{select-all, fill_on}
use Rattle.lists.proofs.Counts.{count-all}
use Rattle.lists.proofs.Expansions.{expand-length, expand-part}
use Rattle.lists.proofs.Joins.{part-part, rows_same}
use Rattle.lists.proofs.Parts.{part_is, map-part}
use Rattle.lists.proofs.Regions.{cut-length}
use Rattle.lists.proofs.Rows.{row_fits, row_in}
use Rattle.lists.proofs.Sums.{total-part, total-front}
use Rattle.model.specs.Pair.{ivar_of}
use Rattle.model.specs.Record.{from_linear, pair_number}
use Rattle.model.specs.Windows.{band_width}
use Rattle.model.specs.Weight.{voiced_at}
use Rattle.voicing.specs.Mask.{mask_of, weight_at, weights_of, column, stream_mask}
use Rattle.voicing.specs.Boundaries.{ahead, lefts, rights, shut_all}
use Rattle.voicing.specs.Windows.{reach_before, reach_after, means_in, ivars_in}
use Rattle.voicing.proofs.Records.{column-length, inverses-length}
use Rattle.voicing.proofs.Runs.{lefts-at, rights-at, shut-length, shut-part}
use Rattle.voicing.proofs.Theory.{weights-length, stream-length, lefts-length, rights-length}
use Rattle.region.specs.Rows.{elem}
use Rattle.band.proofs.Lengths.{side-length}
use Rattle.solve.proofs.Factors.{solution-length}
use Rattle.mlpg_adjust.specs.Trajectory.{voiced_ivars, voiced_means, matrix, side, solved, trajectory, with_gv, gv_on, state_size, numbers_of}
use Rattle.mlpg_adjust.specs.Promise.{lengths_of, disagree, stream_refusal, create_refusal, created_number, zero_floats, zero_marks, CreateSays}
use Rattle.std.proofs.Common.{Result}
use Rattle.lists.specs.declared.Refusal.{Refusal}
use Rattle.mlpg_adjust.specs.declared.Clamped.{Clamped}
use Rattle.mlpg_adjust.specs.declared.Stream.{Stream}
use Rattle.mlpg_adjust.proofs.Calls.{without_gv}
use Rattle.mlpg_adjust.proofs.Ways.{size_small}
use Rattle.runs.specs.declared.Run.{Run}
use Rattle.runs.specs.Runs.{runs_of, run_at}
use Rattle.runs.specs.Alone.{of_run, frame_means, frame_ivars, run_ivars, run_means, run_matrix, run_side, run_values, run_numbers}
use Rattle.runs.specs.Inner.Finding.{run_of, FoundAt, Renders}
use Rattle.runs.specs.declared.finding.Found.{Found}
use Rattle.runs.proofs.Masks.{run_lies, run-left, run-right, run_long}
use Rattle.runs.proofs.Findings.{found-run}

-- ---- the distances in run k of a mask are those in a mask that is one run

module _ (bs : List Bool) (k : ℕ) (h : k < length (runs_of bs)) where
  abbrev run : Run
  run = run_at bs k

  lefts-run : of_run run (lefts 0 bs) ≡ lefts 0 (replicate run.frames true)
  lefts-run =
      part_is run.first run.frames 0 (lefts 0 bs) (lefts 0 (replicate run.frames true)) (rw lefts-length (run_lies bs k h)) (lefts-length 0 (replicate run.frames true) ∙ length-replicate run.frames true)
      (λ u b. omega (arith, run-left bs k h u b, rw append-nil at (lefts-at run.frames u [] b 0)))

  rights-run : of_run run (rights bs) ≡ rights (replicate run.frames true)
  unfolding ahead
  rights-run =
      part_is run.first run.frames 0 (rights bs) (rights (replicate run.frames true)) (rw rights-length (run_lies bs k h)) (rights-length (replicate run.frames true) ∙ length-replicate run.frames true)
      (λ u b. omega (arith, run-right bs k h u b, rw append-nil at (rights-at run.frames u [] b)))

  -- so that inverse variances are zeroed alike
  shut-run : (before after : ℕ) (xs : List Float) → length xs ≡ length bs
      → shut_all before after (lefts 0 (replicate run.frames true)) (rights (replicate run.frames true)) (of_run run xs) ≡ of_run run (shut_all before after (lefts 0 bs) (rights bs) xs)
  shut-run before after xs e =
      rw (← lefts-run, ← rights-run) (shut-part before after run.first run.frames (lefts 0 bs) (rights bs) xs (rights-length bs ∙ sym (lefts-length 0 bs)) (e ∙ sym (lefts-length 0 bs)))

-- ---- m states from state a on

-- their records
abbrev pub own_records : ℕ → List Float → ℕ → ℕ → List Float
own_records size records a m = part (a * size) (m * size) records

module _ (size : ℕ) (records : List Float) (ds : List ℕ) (a m : ℕ) (within : a + m ≤ length ds) where
  -- a column, and the weights
  column-part : (j : ℕ) → j < size → column size (own_records size records a m) j m ≡ part a m (column size records j (length ds))
  unfolding column
  column-part j l =
      build-same _ _ m
      (λ s b.
      let z : a * size + (s * size + j) ≡ (a + s) * size + j = omega (arith, add-mul a s size) in
      get_or-take (m * size) (drop (a * size) records) (s * size + j) nan (row_in size s m j b l) ∙ get_or-drop (a * size) records (s * size + j) nan ∙ rw z)
      ∙ sym (part-build (λ s. get_or records (s * size + j) nan) a m (length ds) within)

  weights-part : weights_of size (own_records size records a m) m ≡ part a m (weights_of size records (length ds))
  unfolding weights_of
  weights-part =
      build-same _ _ m
      (λ s b.
      let z : a * size + s * size ≡ (a + s) * size = sym (add-mul a s size) in
      ap (λ (l : List Float). (from_linear l).msd) (part-part (a * size) (m * size) (s * size) size records (row_fits size s m b) ∙ rw z))
      ∙ sym (part-build (weight_at size records) a m (length ds) within)

  -- and the frames' mask
  mask-part : (threshold : Float) → stream_mask size (own_records size records a m) threshold (part a m ds) ≡ part (total (take a ds)) (total (part a m ds)) (stream_mask size records threshold ds)
  unfolding mask_of
  mask-part threshold =
      rw (cut-length a m ds within, weights-part, map-part)
      (expand-part a m ds (map (voiced_at threshold) (weights_of size records (length ds))) (simp length-map (weights-length size records (length ds))))

-- ---- a run's equations have a number, and a value, for each of its frames

module _ (size : ℕ) (records : List Float) (threshold : Float) (ds : List ℕ) (v : ℕ) (widths : List ℕ) (component : ℕ) (coefs : List Float) (r : Run) where
  pub side-long : length (run_side size records threshold ds v widths component coefs r) ≡ r.frames
  unfolding run_side
  side-long = side-length widths coefs r.frames _ _ (band_width widths)

  pub values-long : length (run_values size records threshold ds v widths component coefs r) ≡ r.frames
  unfolding run_values
  values-long = solution-length (band_width widths) (run_matrix size records threshold ds v widths component coefs r) (run_side size records threshold ds v widths component coefs r) ∙ side-long

-- ---- a run's own states

-- run r of a stream, run number k, has the frames of m states from state a on
pub record Own (size : ℕ) (records : List Float) (threshold : Float) (ds : List ℕ) (a m k : ℕ) (r : Run) : Type 0 where
  pub within : a + m ≤ length ds
  pub there : k < length (runs_of (stream_mask size records threshold ds))
  pub same : run_at (stream_mask size records threshold ds) k ≡ r
  pub begins : r.first ≡ total (take a ds)
  pub lasts : r.frames ≡ total (part a m ds)
  pub voiced : of_run r (stream_mask size records threshold ds) ≡ replicate r.frames true

module _ (size : ℕ) (records : List Float) (threshold : Float) (ds : List ℕ) (a m k : ℕ) (r : Run) (o : Own size records threshold ds a m k r) where
  abbrev whole : List Bool
  whole = stream_mask size records threshold ds

  -- all of these states' frames are voiced
  own-mask : stream_mask size (own_records size records a m) threshold (part a m ds) ≡ replicate r.frames true
  own-mask = mask-part size records ds a m o.within threshold ∙ rw (← o.begins, ← o.lasts) o.voiced

  whole_long : length whole ≡ total ds
  whole_long = stream-length size records threshold ds

  module _ {A : Type 0} where
    -- states' items at the run's frames
    own_items : (xs : List A) → length xs ≡ length ds → expand (part a m ds) (part a m xs) ≡ of_run r (expand ds xs)
    own_items xs e = expand-part a m ds xs e ∙ rw (o.begins, o.lasts)

    own-frames : (ys : List A) → length ys ≡ total ds → length (of_run r ys) ≡ r.frames
    own-frames ys e = rw o.same at (run_long whole k o.there ys (e ∙ sym whole_long))

  -- a component's means and inverse variances
  module _ (v : ℕ) (widths : List ℕ) (component : ℕ) (i : ℕ) where
    own-means : pair_number v i component < size → means_in size (own_records size records a m) v component (stream_mask size (own_records size records a m) threshold (part a m ds)) (part a m ds) i ≡ of_run r (frame_means size records threshold ds v widths component i)
    unfolding means_in frame_means
    own-means l =
        let j = pair_number v i component in
        let xs = column size records j (length ds) in
        let long : length xs ≡ length ds = column-length size records j (length ds) in
        rw (own-mask, cut-length a m ds o.within, column-part size records ds a m o.within j l, own_items xs long)
        (select-all r.frames (of_run r (expand ds xs)) (own-frames (expand ds xs) (expand-length ds xs long)))

    own-ivars : v * length widths + pair_number v i component < size → ivars_in size (own_records size records a m) v component widths (stream_mask size (own_records size records a m) threshold (part a m ds)) (part a m ds) i ≡ of_run r (frame_ivars size records threshold ds v widths component i)
    unfolding ivars_in frame_ivars
    own-ivars l =
        let j = v * length widths + pair_number v i component in
        let xs = map ivar_of (column size records j (length ds)) in
        let long : length xs ≡ length ds = inverses-length size records j (length ds) in
        let framed : length (expand ds xs) ≡ length whole = expand-length ds xs long ∙ sym whole_long in
        let shut_by = shut_all (reach_before widths i) (reach_after widths i) (lefts 0 whole) (rights whole) (expand ds xs) in
        let shuts : length shut_by ≡ total ds = shut-length (reach_before widths i) (reach_after widths i) (lefts 0 whole) (rights whole) (expand ds xs) (rights-length whole ∙ sym (lefts-length 0 whole)) (framed ∙ sym (lefts-length 0 whole)) ∙ lefts-length 0 whole ∙ whole_long in
        let e : shut_all (reach_before widths i) (reach_after widths i) (lefts 0 (replicate r.frames true)) (rights (replicate r.frames true)) (of_run r (expand ds xs)) ≡ of_run r shut_by =
        rw o.same at (shut-run whole k o.there (reach_before widths i) (reach_after widths i) (expand ds xs) framed) in
        rw (own-mask, cut-length a m ds o.within, column-part size records ds a m o.within j l, map-part, own_items xs long, e) (select-all r.frames (of_run r shut_by) (own-frames shut_by shuts))

  -- and so its values
  module _ (v : ℕ) (widths : List ℕ) (component : ℕ) (coefs : List Float) (l : component < v) (fits : v * length widths + v * length widths ≤ size) where
    number_in : (i : ℕ) → i < length widths → pair_number v i component < v * length widths
    number_in i h = omega (arith, row_in v i (length widths) component h l, mul_comm v i, mul_comm v (length widths))

    means-all : voiced_means size (own_records size records a m) threshold (part a m ds) v widths coefs component ≡ run_means size records threshold ds v widths component coefs r
    unfolding voiced_means run_means
    means-all = rows_same _ _ (length widths) (λ i h. own-means v widths component i (omega (arith, number_in i h)))

    ivars-all : voiced_ivars size (own_records size records a m) threshold (part a m ds) v widths coefs component ≡ run_ivars size records threshold ds v widths component coefs r
    unfolding voiced_ivars run_ivars
    ivars-all = rows_same _ _ (length widths) (λ i h. own-ivars v widths component i (omega (arith, number_in i h)))

    own-values : solved size (own_records size records a m) threshold (part a m ds) v widths coefs component ≡ run_values size records threshold ds v widths component coefs r
    unfolding solved matrix side run_values run_matrix run_side
    own-values = rw (ivars-all, means-all, own-mask, count-all)

-- the trajectory of these states alone, with GV off
module _ (s : Stream) (widths : List ℕ) (coefs records : List Float) (ds : List ℕ) (a m k : ℕ) (r : Run) (o : Own (state_size s widths) records s.threshold ds a m k r) (some : 0 < s.v) (off : gv_on s.gv ≡ false) where
  own-column : (component : ℕ) → component < s.v → (f : Float → List Float)
      → fill s.fill (stream_mask (state_size s widths) (own_records (state_size s widths) records a m) s.threshold (part a m ds))
      (with_gv s.gv f (solved (state_size s widths) (own_records (state_size s widths) records a m) s.threshold (part a m ds) s.v widths coefs component))
      ≡ run_values (state_size s widths) records s.threshold ds s.v widths component coefs r
  own-column component l f =
      let size = state_size s widths in
      let fits : s.v * length widths + s.v * length widths ≤ size = omega (arith, mul_comm s.v (length widths)) in
      let values : List Float = run_values size records s.threshold ds s.v widths component coefs r in
      let long : length values ≡ r.frames = values-long size records s.threshold ds s.v widths component coefs r in
      rw (without_gv s.gv f _ off, own-values size records s.threshold ds a m k r o s.v widths component coefs l fits, own-mask size records s.threshold ds a m k r o)
      (fill_on s.fill r.frames values (omega arith) ∙ take_all r.frames values (omega arith))

  pub own-numbers : (gv : List Float) (switches : List ℕ) → numbers_of s widths coefs (own_records (state_size s widths) records a m) (part a m ds) gv switches ≡ run_numbers s widths coefs records ds r
  unfolding numbers_of trajectory run_numbers
  own-numbers gv switches = rw (← o.lasts) (build-same _ _ (r.frames * s.v) (λ p h. ap (λ (l : List Float). elem l (p / s.v)) (own-column (p % s.v) (mod-lt p some) _)))

-- ---- a run that is found

-- how many states it has
abbrev states_of : Found → ℕ
states_of f = f.end.state - f.begin.state

found-own : (size : ℕ) (records : List Float) (threshold : Float) (ds : List ℕ) (f : Found) → FoundAt ds (stream_mask size records threshold ds) f → 0 < (run_of f).frames
    → Own size records threshold ds f.begin.state (states_of f) f.number (run_of f)
found-own size records threshold ds f q some =
    let t = found-run ds (stream_mask size records threshold ds) f f.number q (omega arith) (λ h. absurd (omega arith)) some in
    let z : f.begin.state + states_of f ≡ f.end.state = omega (arith, q.ends.later) in
    record {
      within = omega (arith, q.ends.stands.within);
      there = t.1;
      same = t.0;
      begins = q.begins.framed;
      lasts = omega (arith, q.begins.framed, q.ends.stands.framed, rw z at (total-part ds f.begin.state (states_of f)));
      voiced = rw q.ends.between (take_at (replicate (run_of f).frames true) _ (run_of f).frames (length-replicate (run_of f).frames true));
    }

-- ---- the call for its states is accepted, and says the run

module _ (s : Stream) (widths : List ℕ) (coefs records : List Float) (ds : List ℕ) (gv : List Float) (switches : List ℕ) (f : Found) (out work : List Float) (marks : List ℕ) (q : Renders s widths coefs records ds f out work marks) where
  abbrev own : List Float
  own = own_records (state_size s widths) records f.begin.state (states_of f)

  owned : Own (state_size s widths) records s.threshold ds f.begin.state (states_of f) f.number (run_of f)
  owned = found-own (state_size s widths) records s.threshold ds f q.found q.some

  -- nothing is refused
  own-accepted : create_refusal s widths coefs (part f.begin.state (states_of f) ds) (lengths_of own gv switches out work marks) ≡ 0
  unfolding create_refusal stream_refusal disagree
  own-accepted =
      let size = state_size s widths in
      let a = f.begin.state in
      let m = states_of f in
      let n : length (part a m ds) ≡ m = cut-length a m ds owned.within in
      let fits : a * size + m * size ≤ length records = rw (q.shaped.recorded, ← add-mul a m size) (mul-le-mul_right size owned.within) in
      let few : length (part a m ds) ≤ 4096 = omega (arith, n, owned.within, q.shaped.few) in
      let e : length own ≡ length (part a m ds) * size = rw n (cut-length (a * size) (m * size) records fits) in
      let frames : total (part a m ds) ≤ 65536 = omega (arith, total-part ds a m, total-front ds (a + m), q.shaped.frames) in
      rw (
        q.shaped.fit,
        q.fine,
        le-ltb 4096 (length (part a m ds)) few,
        le-ltb s.v 1 q.shaped.some_v,
        le-ltb 64 s.v q.shaped.most_v,
        eq-eqb (length coefs) (total widths) q.shaped.whole,
        eq-eqb (length own) (length (part a m ds) * size) e,
        q.off,
        le-ltb 65536 (total (part a m ds)) frames,
        ← owned.lasts,
        le-ltb (length out) ((run_of f).frames * s.v) q.numbers,
        le-ltb (length work) ((run_of f).frames * 48) q.floats,
        le-ltb (length marks) ((run_of f).frames * 4) q.counts,
      )

  -- and so the output and the work space are the run's
  pub run-said : (size : ℕ) → size ≡ state_size s widths → (c : Result Clamped Refusal) (out' work' : List Float) (marks' : List ℕ)
      → CreateSays s widths coefs (part (f.begin.state * size) (f.end.state * size - f.begin.state * size) records) (part f.begin.state (f.end.state - f.begin.state) ds) gv switches out work marks c out' work' marks'
      → (out' ≡ written 0 (run_numbers s widths coefs records ds (run_of f)) out) × (work' ≡ written 0 (zero_floats (run_of f).frames) work) × (marks' ≡ written 0 (zero_marks (run_of f).frames) marks)
  run-said size e c out' work' marks' k =
      let b : f.begin.state + states_of f ≡ f.end.state = omega (arith, q.found.ends.later) in
      let z : f.end.state * state_size s widths - f.begin.state * state_size s widths ≡ states_of f * state_size s widths = omega (arith, rw b at (add-mul f.begin.state (states_of f) (state_size s widths))) in
      let w = rw (e, z) at k in
      let n : created_number c ≡ 0 = w.number ∙ own-accepted in
      (w.numbers ∙ rw (n, own-numbers s widths coefs records ds f.begin.state (states_of f) f.number (run_of f) owned q.shaped.some_v q.off gv switches), w.space ∙ rw (n, ← owned.lasts), w.counts ∙ rw (n, ← owned.lasts))

-- where its records lie
pub record Placed (begin end size records : ℕ) : Type 0 where
  pub forth : begin * size ≤ end * size
  pub within : end * size ≤ records
  pub few : records ≤ 2101248

pub run-placed : (s : Stream) (widths : List ℕ) (coefs records : List Float) (ds : List ℕ) (f : Found) (out work : List Float) (marks : List ℕ) → Renders s widths coefs records ds f out work marks
    → (size : ℕ) → size ≡ state_size s widths → Placed f.begin.state f.end.state size (length records)
run-placed s widths coefs records ds f out work marks q size e =
    let n : length records ≡ length ds * size = q.shaped.recorded ∙ rw e in
    let small : size ≤ 513 = rw e (size_small s.v (length widths) s.masked q.shaped.most_v q.shaped.most-windows) in
    record {
      forth = mul-le-mul_right size q.found.ends.later;
      within = rw n (mul-le-mul_right size q.found.ends.stands.within);
      few = rw n (mul-le-mul q.shaped.few small);
    }
