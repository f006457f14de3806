-- What the calls of the band rows promise.
use Rattle.std.specs.Prelude.{◌≡◌, Result, Bool, cond, ◌&&◌, List, [], ◌∷◌, ℕ, ◌*◌, ◌/◌, ◌%◌, length, ltb, leb, eqb, Float}
use Rattle.lists.specs.Sizes.{most_frames}
use Rattle.lists.specs.Refusals.{or_else}
use Rattle.lists.specs.Answers.{answer_of, written}
use Rattle.lists.specs.Totals.{total}
use Rattle.model.specs.Windows.{widths_fit, window_refusal, band_width}
use Rattle.region.specs.Region.{Region, size_of, each_region}
use Rattle.region.specs.declared.Layout.{Layout}
use Rattle.band.specs.Paper.{band_rows, right_side}
use Rattle.lists.specs.Ends.{counted}
use Rattle.lists.specs.declared.Refusal.{Refusal}

-- a number a window and frame: means / windows frames
abbrev pub frame_count : List ℕ → ℕ → ℕ
frame_count widths means = means / length widths

-- RULES, Refusals: 1, 2 and 4 of the windows; 4 for a remainder, and for another number of inverse variances; 5 for more than 65,536 frames
unfoldable pub set_refusal : List ℕ → List Float → ℕ → ℕ → ℕ
unfolding window_refusal
set_refusal widths coefs means ivars =
    or_else (window_refusal widths coefs)
    (or_else (cond (eqb (means % length widths) 0) 0 4) (or_else (cond (eqb ivars means) 0 4) (cond (ltb most_frames (frame_count widths means)) 5 0)))

-- RULES, Refusals: the smallest number that applies; after those 6 for rows or a right side that is too short
unfoldable pub band_refusal : List ℕ → List Float → List Float → List Float → List Float → List Float → ℕ
unfolding set_refusal
band_refusal widths coefs means ivars rows right =
    let n = frame_count widths (length means) in
    or_else (set_refusal widths coefs (length means) (length ivars)) (or_else (cond (ltb (length rows) (n * band_width widths)) 6 0) (cond (ltb (length right) n) 6 0))

-- the frame count, the rows and the right side
pub record BandSays (widths : List ℕ) (coefs means ivars rows right : List Float) (r : Result ℕ Refusal) (rows' right' : List Float) : Type 0 where
  pub answer : counted r ≡ answer_of (band_refusal widths coefs means ivars rows right) (frame_count widths (length means) ∷ [])
  pub matrix : rows' ≡ written (band_refusal widths coefs means ivars rows right) (band_rows widths coefs (frame_count widths (length means)) ivars (band_width widths)) rows
  pub side : right' ≡ written (band_refusal widths coefs means ivars rows right) (right_side widths coefs (frame_count widths (length means)) ivars means) right

-- whether there are rows to be made: windows that the rules allow, a layout of theirs, and the regions of so many components within so many floats
abbrev pub opens : List ℕ → List Float → Layout → ℕ → ℕ → Bool
opens widths coefs g lanes floats =
    widths_fit widths && eqb (length coefs) (total widths) && eqb (length widths) g.windows && eqb (band_width widths) g.w && leb (lanes * size_of g) floats

-- RULES, Band rows: the normal equations of a component's pairs
abbrev pub rowed_in : List ℕ → List Float → Layout → Region → Region
rowed_in widths coefs g r = record {
  means = r.means;
  ivars = r.ivars;
  matrix = band_rows widths coefs g.n r.ivars g.w;
  side = right_side widths coefs g.n r.ivars r.means;
  factors = r.factors;
  values = r.values;
}

-- `calc_rows`: each component's region, and nothing where they don't lie within the list
pub record RowsSay (widths : List ℕ) (coefs : List Float) (g : Layout) (lanes : ℕ) (work work' : List Float) : Type 0 where
  pub space : work' ≡ cond (opens widths coefs g lanes (length work)) (each_region g lanes (λ l. rowed_in widths coefs g) work) work
