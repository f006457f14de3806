-- One voiced run alone has the full trajectory's values at its frames, up to the sign of zeros.
use mathlib.Core.Path.{◌≡◌, sym, ap, ◌∙◌}
use mathlib.Core.Bool.{Bool, true, false}
use mathlib.Core.List.{List, map}
use Prim.Native.Nat.{ℕ, ◌+◌, ◌*◌, ◌<◌}
use native.Mathlib.Omega.{arith}
use lib.Dec.{T}
use lib.ListN.{length, get_or, length-map, get_or-map}
use lib.Ieee.{Float, nan}
use lib.Ieee.Scale.{finite}
use Rattle.lists.specs.Totals.{total}
use Rattle.lists.specs.Frames as frames
use Rattle.lists.specs.Frames.{expand, select, fill}
use Rattle.lists.proofs.Builds.{laid-at}
use Rattle.lists.proofs.Chosen.{map-fill}
use Rattle.lists.proofs.Counts.{select-length}
use Rattle.lists.proofs.Expansions.{expand-length}
use Rattle.floats.specs.Signs.{plain, Same}
use Rattle.region.specs.Rows.{elem}
use Rattle.model.specs.Pair.{ivar_of}
use Rattle.model.specs.Record.{pair_number}
use Rattle.model.specs.Windows.{all_finite, width_of, band_width}
use Rattle.model.proofs.Windows.{fit-some}
use Rattle.voicing.specs.Mask.{column, stream_mask}
use Rattle.voicing.specs.Boundaries.{lefts, rights}
use Rattle.voicing.specs.Windows.{reach_before, reach_after, means_in, ivars_in}
use Rattle.voicing.proofs.Theory.{lefts-length, rights-length, stream-length}
use Rattle.voicing.proofs.Records.{column-length, inverses-length}
use Rattle.voicing.proofs.Runs.{shut-length}
use Rattle.mlpg_adjust.specs.Trajectory.{state_size, gv_on, with_gv, voiced_ivars, voiced_means, matrix, side, solved, varied, trajectory, numbers_of}
use Rattle.mlpg_adjust.specs.Inner.Groups.{Shaped}
use Rattle.mlpg_adjust.specs.declared.Stream.{Stream}
use Rattle.mlpg_adjust.proofs.Calls.{without_gv}
use Rattle.mlpg_adjust.proofs.Marks.{mask-long}
use Rattle.runs.specs.declared.Run.{Run}
use Rattle.runs.specs.Runs.{runs_of, run_at}
use Rattle.runs.specs.Alone.{of_run, frame_means, frame_ivars, run_ivars, run_means, run_matrix, run_side, run_values, run_numbers}
use Rattle.runs.proofs.Masks.{run_lies, run_long, select-runs, in_turn, fill-runs}
use Rattle.runs.proofs.Parts.{values-long}
use Rattle.alone.specs.Premise.{Sound}
use Rattle.alone.specs.Claim.{mask, count, run, Premise, Alone}
use Rattle.alone.proofs.Closed.{frames_of, values_same, Good, Together, together}
use Rattle.alone.proofs.Reaches.{reaches-before, reaches-after, zero-begin, zero-end}

-- ---- values of runs, filled back

-- they are the same as each run's own
filled-same : (none : Float) (bs : List Bool) (vs : List Float) (own : Run → List Float) → ((r : Run) → length (own r) ≡ r.frames) → map plain vs ≡ in_turn (λ r. map plain (own r)) (runs_of bs)
    → (k : ℕ) → k < length (runs_of bs) → (t : ℕ) → t < (run_at bs k).frames → Same (elem (fill none bs vs) ((run_at bs k).first + t)) (elem (own (run_at bs k)) t)
filled-same none bs vs own sized e k h t l =
    let r : Run = run_at bs k in
    sym (get_or-map plain (fill none bs vs) (r.first + t) nan)
    ∙ ap (λ (xs : List Float). get_or xs (r.first + t) nan) (map-fill plain none bs vs ∙ ap (fill (plain none) bs) e)
    ∙ fill-runs (plain none) bs (λ r. map plain (own r)) (λ r. length-map (own r) plain ∙ sized r) k h t l nan
    ∙ get_or-map plain (own r) t nan

-- ---- a component of a stream

module _ (size : ℕ) (records : List Float) (threshold : Float) (ds : List ℕ) (v : ℕ) (widths : List ℕ) (component : ℕ) where
  abbrev bs : List Bool
  bs = stream_mask size records threshold ds

  abbrev p : ℕ → List Float
  p i = frame_means size records threshold ds v widths component i

  abbrev x : ℕ → List Float
  x i = frame_ivars size records threshold ds v widths component i

  -- window i's inverse variances before any is zeroed
  abbrev inverses : ℕ → List Float
  inverses i = expand ds (map ivar_of (column size records (v * length widths + pair_number v i component) (length ds)))

  means_long : (i : ℕ) → length (p i) ≡ length bs
  unfolding frame_means
  means_long i = expand-length ds _ (column-length size records (pair_number v i component) (length ds)) ∙ sym (stream-length size records threshold ds)

  inverses-all : (i : ℕ) → length (inverses i) ≡ length bs
  inverses-all i = expand-length ds _ (inverses-length size records (v * length widths + pair_number v i component) (length ds)) ∙ sym (stream-length size records threshold ds)

  ivars_long : (i : ℕ) → length (x i) ≡ length bs
  unfolding frame_ivars
  ivars_long i =
      let n : length (lefts 0 bs) ≡ length bs = lefts-length 0 bs in
      shut-length (reach_before widths i) (reach_after widths i) (lefts 0 bs) (rights bs) (inverses i) (rights-length bs ∙ sym n) (inverses-all i ∙ sym n) ∙ n

  module _ (coefs : List Float) where
    abbrev own : Run → List Float
    own r = run_values size records threshold ds v widths component coefs r

    -- a run that the premise is said of
    good : width_of widths 0 ≡ 1 → (k : ℕ) → k < length (runs_of bs)
        → ((i u : ℕ) → i < length widths → u < (run_at bs k).frames → T (finite (elem (of_run (run_at bs k) (p i)) u)))
        → Sound (band_width widths) (run_matrix size records threshold ds v widths component coefs (run_at bs k)) (run_side size records threshold ds v widths component coefs (run_at bs k))
        → Good widths coefs x p (run_at bs k)
    unfolding frame_ivars run_matrix run_side run_ivars run_means
    good one k h fine sound = record {
      frames = record {
        long = λ i b. run_long bs k h (x i) (ivars_long i);
        begins = λ i b u l c. zero-begin bs k h (reach_before widths i) (reach_after widths i) (inverses i) (inverses-all i) u l (rw (reaches-before widths one i) c);
        long_means = λ i b. run_long bs k h (p i) (means_long i);
        fine_means = fine;
      };
      ends = λ i b u l c. zero-end bs k h (reach_before widths i) (reach_after widths i) (inverses i) (inverses-all i) u l (rw (reaches-after widths one i) (omega arith));
      sound = sound;
    }

    -- the values of all voiced frames are the runs' own
    solved-same : length coefs ≡ total widths → all_finite coefs ≡ true → 0 < length widths → ((k : ℕ) → k < length (runs_of bs) → Good widths coefs x p (run_at bs k))
        → map plain (solved size records threshold ds v widths coefs component) ≡ in_turn (λ r. map plain (own r)) (runs_of bs)
    unfolding solved matrix side voiced_ivars voiced_means ivars_in means_in frame_ivars frame_means run_values run_matrix run_side run_ivars run_means
    solved-same whole fine some goods =
        let rs : List Run = runs_of bs in
        let t : Together widths coefs x p rs = together widths coefs x p whole fine rs goods in
        let n : frames.count bs ≡ frames_of rs = sym (select-length bs (x 0) (ivars_long 0)) ∙ ap length (select-runs bs (x 0) (ivars_long 0)) ∙ t.frames.long 0 some in
        ap (map plain) (values_same widths coefs (frames.count bs) (frames_of rs) (λ i. select bs (x i)) _ (λ i. select bs (p i)) _ n (λ i. select-runs bs (x i) (ivars_long i)) (λ i. select-runs bs (p i) (means_long i)))
        ∙ t.values

-- ---- all components

-- a number of a run is a component's at a frame
pub number_at : (s : Stream) (widths : List ℕ) (coefs records : List Float) (ds : List ℕ) (r : Run) (t c : ℕ) → t < r.frames → c < s.v
    → elem (run_numbers s widths coefs records ds r) (t * s.v + c) ≡ elem (run_values (state_size s widths) records s.threshold ds s.v widths c coefs r) t
unfolding run_numbers
number_at s widths coefs records ds r t c l b = laid-at (λ c t. elem (run_values (state_size s widths) records s.threshold ds s.v widths c coefs r) t) s.v r.frames t c nan l b

-- RULES, One run alone
pub run_alone : (s : Stream) (widths : List ℕ) (coefs records : List Float) (ds : List ℕ) (gv : List Float) (switches : List ℕ)
    → Shaped s widths coefs records ds → all_finite coefs ≡ true → gv_on s.gv ≡ false → width_of widths 0 ≡ 1
    → Premise s widths coefs records ds → (k : ℕ) → k < count s widths coefs records ds
    → Alone s widths coefs records ds (numbers_of s widths coefs records ds gv switches) (run_numbers s widths coefs records ds (run s widths coefs records ds k)) k
unfolding numbers_of trajectory
run_alone s widths coefs records ds gv switches shaped fine off one premise k h t c l b =
    let size : ℕ = state_size s widths in
    let bs : List Bool = mask s widths coefs records ds in
    let r : Run = run_at bs k in
    let values : ℕ → List Float = λ c. solved size records s.threshold ds s.v widths coefs c in
    let full : ℕ → List Float = λ c. with_gv s.gv (λ weight. varied size records s.threshold ds s.v widths coefs c weight gv switches) (values c) in
    let within : r.first + t < total ds = omega (arith, run_lies bs k h, mask-long s widths records ds) in
    ap plain (laid-at (λ c t. elem (fill s.fill bs (full c)) t) s.v (total ds) (r.first + t) c nan within b
    ∙ ap (λ (vs : List Float). elem (fill s.fill bs vs) (r.first + t)) (without_gv s.gv _ (values c) off))
    ∙ filled-same s.fill bs (values c) (own size records s.threshold ds s.v widths c coefs) (values-long size records s.threshold ds s.v widths c coefs)
    (solved-same size records s.threshold ds s.v widths c coefs shaped.whole fine (fit-some widths shaped.fit)
    (λ k h. good size records s.threshold ds s.v widths c coefs one k h (λ i u a g. premise.means k c i u h b a g) (premise.sound k c h b))) k h t l
    ∙ sym (ap plain (number_at s widths coefs records ds r t c l b))
