-- The pairs of one component, closed up window by window.
use Rattle.std.specs.Prelude.{Bool, cond, List, map, ℕ, ◌+◌, ◌*◌, length, eqb, Float}
use Rattle.model.specs.Pair.{ivar_of}
use Rattle.model.specs.Record.{pair_number}
use Rattle.model.specs.Windows.{width_of, left_width, right_width}
use Rattle.lists.specs.Frames.{expand, select}
use Rattle.voicing.specs.Mask.{column}
use Rattle.voicing.specs.Boundaries.{lefts, rights, shut_all}

-- RULES, Mask: every window but the first is zeroed near the ends of a run: where the left distance is below this, half of window i's length, rounded down
abbrev pub reach_before : List ℕ → ℕ → ℕ
reach_before widths i = cond (eqb i 0) 0 (left_width (width_of widths i))

-- or the right distance below this, length - half - 1
abbrev pub reach_after : List ℕ → ℕ → ℕ
reach_after widths i = cond (eqb i 0) 0 (right_width (width_of widths i))

-- RULES, Pairs: a record is its means, then as many variances, and the pair of window i and component c is number v * i + c. Window i's means of the voiced frames
unfoldable pub means_in : ℕ → List Float → ℕ → ℕ → List Bool → List ℕ → ℕ → List Float
unfolding column expand select
means_in size records v component mask ds i = select mask (expand ds (column size records (pair_number v i component) (length ds)))

-- RULES, Mask: window i's inverse variances, zeroed near the ends of a run by the frames' distances; then those of the voiced frames are closed up
unfoldable pub ivars_in : ℕ → List Float → ℕ → ℕ → List ℕ → List Bool → List ℕ → ℕ → List Float
unfolding column expand select lefts rights shut_all
ivars_in size records v component widths mask ds i =
    select mask (shut_all (reach_before widths i) (reach_after widths i) (lefts 0 mask) (rights mask)
    (expand ds (map ivar_of (column size records (v * length widths + pair_number v i component) (length ds)))))

-- RULES, Clamps: window i's variances of the voiced frames, as the records give them: none is zeroed
unfoldable pub variances_in : ℕ → List Float → ℕ → ℕ → List ℕ → List Bool → List ℕ → ℕ → List Float
unfolding column expand select
variances_in size records v component widths mask ds i = select mask (expand ds (column size records (v * length widths + pair_number v i component) (length ds)))
