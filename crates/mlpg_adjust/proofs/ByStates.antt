-- The clamped pairs of a stream, by window and component: they are those of its states, and some of all its pairs, which are windows × v a voiced frame.
use mathlib.Core.Path.{◌≡◌, sym, ap, ◌∙◌}
use mathlib.Core.Bool.{Bool}
use mathlib.Core.List.{List}
use Prim.Native.Nat.{ℕ, ◌+◌, ◌*◌, ◌/◌, ◌≤◌}
use native.Mathlib.Omega.{arith}
use native.Mathlib.Nat.{mul-le-mul}
use lib.ListN.{length, drop}
use lib.Seq.{get_or-take, get_or-drop}
use lib.Ieee.{Float, nan}
use Rattle.lists.specs.Build.{build}
use Rattle.lists.specs.Parts.{part}
use Rattle.lists.specs.Frames.{count}
use Rattle.lists.proofs.Builds.{build_is, build-same}
use Rattle.lists.proofs.Columns.{count_columns, totals_most}
use Rattle.lists.proofs.Regions.{cut-length}
use Rattle.lists.proofs.Rows.{row_fits}
use Rattle.lists.proofs.Shares.{share}
use Rattle.lists.proofs.Counts.{count_most}
use Rattle.lists.proofs.Joins.{rows-length}
use Rattle.model.specs.declared.mean_vari.Clamp.{Clamp}
use Rattle.model.specs.Pair.{clamp_of}
use Rattle.model.specs.Record.{from_linear, varis_of}
use Rattle.model.specs.Clamps.{variances_of, clamped_in, is_high, is_low}
use Rattle.model.proofs.Records.{varis-length}
use Rattle.model.proofs.Clamps.{variances_are, clamped-apart}
use Rattle.region.specs.Rows.{elem}
use Rattle.region.proofs.Readings.{part_elem}
use Rattle.voicing.specs.Mask.{mask_of, column}
use Rattle.voicing.specs.Windows.{variances_in}
use Rattle.voicing.proofs.Records.{variances_long}
use Rattle.mlpg_adjust.specs.Trajectory.{record_size, state_size}
use Rattle.mlpg_adjust.specs.Clamps.{voiced_varis, clamped_over, clamped_high, clamped_low}
use Rattle.mlpg_adjust.specs.Inner.Clamps.{clamped_at, clamped_by_states, Recorded}
use Rattle.mlpg_adjust.specs.declared.Stream.{Stream}
use Rattle.mlpg_adjust.specs.Inner.Groups.{voiced_in}
use Rattle.mlpg_adjust.proofs.Clamps.{voiced, voiced-long, states-share}
use Rattle.mlpg_adjust.proofs.RecordPairs.{means-half}
use Rattle.mlpg_adjust.proofs.Marks.{mask-long}

-- a record's variances: k of them, behind as many means
record_varis : (size : ℕ) (records : List Float) (s k : ℕ) → size / 2 ≡ k → s * size + size ≤ length records
    → variances_of (from_linear (part (s * size) size records)) ≡ build (λ j. elem records (s * size + (k + j))) k
record_varis size records s k half room =
    let lin = part (s * size) size records in
    let mid : length lin / 2 ≡ k = ap (λ (n : ℕ). n / 2) (cut-length (s * size) size records room) ∙ half in
    variances_are lin
    ∙ build_is (λ j. elem records (s * size + (k + j))) k (varis_of lin) nan (varis-length lin ∙ mid)
    (λ j h. rw mid (get_or-take k (drop k lin) j nan h ∙ get_or-drop k lin j nan ∙ sym (part_elem (s * size) size (k + j) records (omega arith))))

-- each pair once a voiced frame are each state's pairs, times its frames where it is voiced
pub by_states : (so : Clamp → Bool) (v : ℕ) (widths : List ℕ) (masked : Bool) (records : List Float) (threshold : Float) (ds : List ℕ) → length records ≡ length ds * record_size v (length widths) masked
    → clamped_over (record_size v (length widths) masked) records threshold ds v widths so ≡ clamped_by_states so (record_size v (length widths) masked) records threshold ds
unfolding clamped_over voiced_varis variances_in column clamped_in mask_of
by_states so v widths masked records threshold ds all =
    let size = record_size v (length widths) masked in
    let k = v * length widths in
    count_columns (λ (x : Float). so (clamp_of x)) ds (voiced so size records threshold ds) (λ s j. elem records (s * size + (k + j))) v (length widths) (voiced-long so size records threshold ds)
    ∙ ap (share ds (voiced so size records threshold ds))
    (build-same _ (clamped_at so size records) (length ds)
    (λ s h. ap (clamped_in so) (sym (record_varis size records s k (means-half v (length widths) masked) (omega (arith, all, row_fits size s (length ds) h))))))
    ∙ sym (states-share so size records threshold ds)

-- none is clamped both ways, and 32 bits hold their numbers
module _ (s : Stream) (widths : List ℕ) (records : List Float) (ds : List ℕ) where
  -- a component's variances
  abbrev varis : ℕ → List Float
  varis component = voiced_varis (state_size s widths) records s.threshold ds s.v widths component

  varis-long : (component : ℕ) → length (varis component) ≡ length widths * count (voiced_in s widths records ds)
  unfolding voiced_varis
  varis-long component =
      rows-length (variances_in (state_size s widths) records s.v component widths (voiced_in s widths records ds) ds) (count (voiced_in s widths records ds)) (length widths)
      (λ i h. variances_long (state_size s widths) records s.v component widths (voiced_in s widths records ds) ds (mask-long s widths records ds) i)

  pub clamped-share : clamped_high s widths records ds + clamped_low s widths records ds ≤ s.v * (length widths * count (voiced_in s widths records ds))
  unfolding clamped_over
  clamped-share =
      totals_most (λ component. clamped_in is_high (varis component)) (λ component. clamped_in is_low (varis component)) (length widths * count (voiced_in s widths records ds)) s.v
      (λ component. omega (arith, clamped-apart (varis component), varis-long component))

  pub clamped_in_32 : Recorded s widths records ds → clamped_high s widths records ds + clamped_low s widths records ds ≤ 16777216
  clamped_in_32 r =
      let few : count (voiced_in s widths records ds) ≤ 65536 = omega (arith, count_most (voiced_in s widths records ds), mask-long s widths records ds, r.frames) in
      omega (arith, clamped-share, mul-le-mul r.most_v (mul-le-mul r.most-windows few))
