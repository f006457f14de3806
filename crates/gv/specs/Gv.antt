-- The formulas of the global variance, by their names in `mlpg.rs`. Every operation is IEEE 754's, rounded once.
use Rattle.std.specs.Prelude.{Bool, false, cond, List, [], ◌∷◌, ℕ, ◌+◌, ◌-◌, ◌*◌, length, get_or, ltb, leb, Float}
use Rattle.std.specs.Float.{nan, binary64}
use Rattle.std.specs.Float.Ieee.{of_bits, add, sub, mul, div, neg, lt}
use Rattle.lists.specs.Build.{build, fold_from, over}
use Rattle.lists.specs.Frames.{select, count}
use Rattle.floats.specs.Root.{sqrt_of}
use Rattle.floats.specs.Numbers.{nought, one, number}
use Rattle.region.specs.Rows.{elem, entry}

-- ---- constants: W1 and W2 1.0, then 2.0, 0.5; STEPINIT 0.1, STEPDEC 0.5, STEPINC 1.2

abbrev pub W1 : Float
W1 = one

abbrev pub W2 : Float
W2 = one

abbrev pub two : Float
two = of_bits binary64 0x4000000000000000

abbrev pub half : Float
half = of_bits binary64 0x3fe0000000000000

abbrev pub step_init : Float
step_init = of_bits binary64 0x3fb999999999999a

abbrev pub step_dec : Float
step_dec = of_bits binary64 0x3fe0000000000000

abbrev pub step_inc : Float
step_inc = of_bits binary64 0x3ff3333333333333

-- ---- `calc_gv`: mean and variance of the switched values

-- RULES, Global variance: the sums of mean and variance start with their first term; of no term it is never asked
unfoldable pub sum_from_first : (Float → Float) → List Float → Float
unfolding fold_from
sum_from_first f [] = nan
sum_from_first f (x ∷ xs) = fold_from (λ a y. add binary64 a (f y)) (f x) xs

-- their mean
unfoldable pub mean_of : List Bool → List Float → Float
unfolding sum_from_first select count
mean_of on par = div binary64 (sum_from_first (λ x. x) (select on par)) (number (count on))

-- a squared deviation
abbrev pub squared : Float → Float → Float
squared mean x = mul binary64 (sub binary64 x mean) (sub binary64 x mean)

-- their variance: the mean of the squared deviations
unfoldable pub vari_of : List Bool → List Float → Float
unfolding sum_from_first select count mean_of
vari_of on par = div binary64 (sum_from_first (squared (mean_of on par)) (select on par)) (number (count on))

-- ---- `conv_gv`: the switched values drawn apart about their mean

-- by which they are drawn apart
abbrev pub ratio_of : Float → Float → Float
ratio_of gv_mean vari = sqrt_of (div binary64 gv_mean vari)

-- a value x with the switch b
abbrev pub conv_of : Bool → Float → Float → Float → Float
conv_of b mean ratio x = cond b (add binary64 (mul binary64 ratio (sub binary64 x mean)) mean) x

-- the value at t
abbrev pub conv_at : List Bool → Float → Float → List Float → ℕ → Float
conv_at on mean ratio par t = conv_of (get_or on t false) mean ratio (elem par t)

-- all of them
unfoldable pub conv_gv : List Bool → Float → List Float → List Float
unfolding build mean_of vari_of
conv_gv on gv_mean par = build (conv_at on (mean_of on par) (ratio_of gv_mean (vari_of on par)) par) (length par)

-- ---- `calc_hmmobj_derivative`: g is the matrix before factoring times the values, hmmobj the objective's first part

-- row t is the diagonal, then for i = 1, 2, .. the entry to the right, if there is one, and the one to the left: a sum g with the one to the right
unfoldable pub plus_right : ℕ → List Float → List Float → ℕ → ℕ → Float → Float
plus_right w wuw par t i g = cond (ltb (t + i) (length par)) (add binary64 g (mul binary64 (entry w wuw t i) (elem par (t + i)))) g

-- and with the one to the left, which stands in the row that it mirrors
unfoldable pub plus_left : ℕ → List Float → List Float → ℕ → ℕ → Float → Float
plus_left w wuw par t i g = cond (leb i t) (add binary64 g (mul binary64 (entry w wuw (t - i) i) (elem par (t - i)))) g

-- both, for i = k + 1
abbrev pub beside : ℕ → List Float → List Float → ℕ → ℕ → Float → Float
beside w wuw par t k g = plus_left w wuw par t (k + 1) (plus_right w wuw par t (k + 1) g)

-- all of row t
unfoldable pub gradient_at : ℕ → List Float → List Float → ℕ → Float
unfolding over plus_right plus_left
gradient_at w wuw par t = over (beside w wuw par t) (w - 1) (mul binary64 (entry w wuw t 0) (elem par t))

-- all rows
unfoldable pub gradient : ℕ → List Float → List Float → List Float
unfolding build gradient_at
gradient w wuw par = build (gradient_at w wuw par) (length par)

-- `w`: 1 / (number of windows × frames)
abbrev pub weight_of : ℕ → ℕ → Float
weight_of windows n = div binary64 one (number (windows * n))

-- a frame's term of the objective: m is its right side, g its gradient, p its value
abbrev pub hmm_term : Float → Float → Float → Float → Float
hmm_term weight m g p = mul binary64 (mul binary64 (mul binary64 W1 weight) p) (sub binary64 m (mul binary64 half g))

-- RULES, Global variance: the objective's sum starts with zero
unfoldable pub hmm_obj : Float → List Float → List Float → List Float → Float
unfolding over
hmm_obj weight wum g par = over (λ t y. add binary64 y (hmm_term weight (elem wum t) (elem g t) (elem par t))) (length par) nought

-- ---- `parmgen`: the objective, and the size of the step

-- the part of the global variance
abbrev pub gv_obj : Float → Float → Float → Float
gv_obj gv_mean gv_vari vari =
    mul binary64 (mul binary64 (mul binary64 (mul binary64 (neg half) W2) vari) gv_vari) (sub binary64 vari (mul binary64 two gv_mean))

-- RULES, Global variance: the size is halved where the objective rose, goes times 1.2 where it fell, and stays where it is equal or NaN
unfoldable pub size_after : Float → Float → Float → Float
size_after step prev obj = cond (lt prev obj) (mul binary64 step step_dec) (cond (lt obj prev) (mul binary64 step step_inc) step)

-- ---- `next_step`

-- `h`, for a value that is d away from the mean
abbrev pub h_of : Float → ℕ → Float → Float → Float → Float → Float → Float
h_of weight n gv_mean gv_vari vari diagonal d =
    sub binary64 (mul binary64 (mul binary64 (neg W1) weight) diagonal)
    (mul binary64 (div binary64 (mul binary64 W2 two) (number (n * n)))
    (add binary64 (mul binary64 (mul binary64 (number (n - 1)) gv_vari) (sub binary64 vari gv_mean))
    (mul binary64 (mul binary64 (mul binary64 two gv_vari) d) d)))

-- `dv`, the weight of a value's distance from the mean
abbrev pub dv_of : ℕ → Float → Float → Float → Float
dv_of n gv_mean gv_vari vari = div binary64 (mul binary64 (mul binary64 (neg two) gv_vari) (sub binary64 vari gv_mean)) (number n)

-- `next_g`: b is the frame's switch, g its gradient, m its right side
abbrev pub next_g : Float → Float → Float → Bool → Float → Float → Float → Float
next_g weight dv h b g m d =
    let pull = mul binary64 (mul binary64 W1 weight) (add binary64 (neg g) m) in
    cond b (mul binary64 (div binary64 one h) (add binary64 pull (mul binary64 (mul binary64 W2 dv) d))) (mul binary64 (div binary64 one h) pull)
