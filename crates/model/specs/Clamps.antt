-- RULES, Clamps: how many variances are clamped.
use Rattle.std.specs.Prelude.{Bool, true, false, List, map, ℕ, Float}
use Rattle.lists.specs.Frames.{count}
use Rattle.model.specs.declared.mean_vari.MeanVari.{MeanVari}
use Rattle.model.specs.declared.mean_vari.Clamp.{Clamp}
use Rattle.model.specs.declared.mean_vari.Clamp.TheVariants.{High, Low, No}
use Rattle.model.specs.declared.voice.model.Clamps.{Clamps}
use Rattle.model.specs.Pair.{clamp_of}
use Rattle.model.specs.Record.{Parameter}

abbrev pub is_high : Clamp → Bool
is_high High = true
is_high Low = false
is_high No = false

abbrev pub is_low : Clamp → Bool
is_low High = false
is_low Low = true
is_low No = false

-- a record's variances, one a pair
abbrev pub variances_of : Parameter → List Float
variances_of p = map (λ (q : MeanVari). q.1) p.parameters

-- how many of some variances are clamped so
unfoldable pub clamped_in : (Clamp → Bool) → List Float → ℕ
unfolding count clamp_of
clamped_in so varis = count (map (λ (v : Float). so (clamp_of v)) varis)

-- high, and low
abbrev pub clamps_in : List Float → Clamps
clamps_in varis = record { high = clamped_in is_high varis; low = clamped_in is_low varis }
