-- The absolute value, and the order of costs.
use Rattle.std.specs.Prelude.{Bool, true, false, not, ◌&&◌, ◌||◌, Float}
use Rattle.std.specs.Float.{nan, inf, fin}
use Rattle.std.specs.Float.Ieee.{is_nan, lt}

-- IEEE 754-2019, 5.5.1, abs: the sign is cleared
unfoldable pub abs_of : Float → Float
abs_of nan = nan
abs_of (inf s) = inf false
abs_of (fin s m e) = fin false m e

-- RULES, Durations: whether the cost a comes strictly before b; all NaN costs are one, and after infinity
unfoldable pub cost_below : Float → Float → Bool
unfolding is_nan lt
cost_below a b = not (is_nan a) && (is_nan b || lt a b)

-- the sign is clear, as an absolute value's is; a NaN has none
abbrev pub not_negative : Float → Bool
not_negative nan = true
not_negative (inf s) = not s
not_negative (fin s m e) = not s
