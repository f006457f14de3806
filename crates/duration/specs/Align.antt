-- Alignment: labels with an end close groups of states, and the states after the last of them are a group that is open.
use Rattle.std.specs.Prelude.{Bool, true, false, cond, List, [], ◌∷◌, ◌++◌, ℕ, ◌+◌, ◌-◌, ltb, take, drop, Float}
use Rattle.std.specs.Float.{binary64}
use Rattle.std.specs.Float.Ieee.{sub, le}
use Rattle.lists.specs.Sizes.{most_frames}
use Rattle.lists.specs.Totals.{total}
use Rattle.floats.specs.Rounding.{rounded_of}
use Rattle.floats.specs.Numbers.{nought, number}
use Rattle.duration.specs.declared.align.End.{End}
use Rattle.duration.specs.declared.align.End.TheVariants.{At, Open}
use Rattle.duration.specs.declared.align.Label.{Label}
use Rattle.steps.specs.Steps.{States, states, Outcome, unchanged}
use Rattle.duration.specs.Estimate.{naturals}
use Rattle.duration.specs.Fit.{fit_to, refusal_to}
use Rattle.lists.specs.Refusals.{or_else}

-- RULES, Durations: an end at or above 0, -0 too, is a time in frames; one below 0, and NaN, is open
abbrev pub end_if : Bool → Float → End
end_if true x = At x
end_if false x = Open

-- the end that a lent number gives
abbrev pub end_of : Float → End
end_of x = end_if (le nought x) x

-- RULES, Forms: a label is a record by value, made from a lent number: its first state, and its end as an enum
abbrev pub label_of : ℕ → Float → Label
label_of first x = record { first = first; end = end_of x }

-- the states from one place up to another, and their end
pub record Group : Type 0 where
  pub from : ℕ
  pub to : ℕ
  pub end : End

-- those that a given end closes
abbrev pub given : ℕ → ℕ → Float → Group
given done next x = record { from = done; to = next; end = At x }

-- RULES, Durations: the states after the last given end are the tail, and open; it has no state where the last label has an end
abbrev pub tail : ℕ → ℕ → Group
tail done next = record { from = done; to = next; end = Open }

-- RULES, Durations: a label with an end closes all states that no label before it has closed; `rest` are the groups after it
abbrev pub closing : ℕ → ℕ → End → (ℕ → List Group) → List Group
closing done next (At x) rest = given done next x ∷ rest next
closing done next Open rest = rest done

-- the groups of labels of k states each: the first label's first state is at `first`, and the states before `done` are closed
unfoldable pub groups : ℕ → ℕ → ℕ → List Float → List Group
groups k done first [] = tail done first ∷ []
groups k done first (x ∷ xs) = closing done ((label_of first x).first + k) (label_of first x).end (λ d. groups k d (first + k) xs)

-- a group's part of a list, one number a state
abbrev pub within : {A : Type 0} → Group → List A → List A
within g xs = take (g.to - g.from) (drop g.from xs)

-- and its states
abbrev pub states_in : Group → States → States
states_in g ss = states (within g ss.means) (within g ss.varis) (within g ss.shortest)

-- RULES, Durations: the target of an end is the end less the frames before its group, rounded
abbrev pub target_of : Float → ℕ → ℕ
target_of end frames = rounded_of (sub binary64 end (number frames))

-- RULES, Durations: states with an end are fitted to its target; those of the tail have their natural durations, and nothing is changed
abbrev pub fit_to_end : States → ℕ → End → Outcome
fit_to_end ss frames (At x) = fit_to ss (target_of x frames)
fit_to_end ss frames Open = unchanged (naturals ss)

-- a group's fit, after so many frames
abbrev pub fit_of : States → Group → ℕ → Outcome
fit_of ss g frames = fit_to_end (states_in g ss) frames g.end

-- group after group, from the frames so far: the durations, and the changes of all groups
unfoldable pub fit_along : States → List Group → ℕ → Outcome
fit_along ss [] frames = unchanged []
fit_along ss (g ∷ gs) frames =
    let o = fit_of ss g frames in
    let later = fit_along ss gs (frames + total o.durations) in
    record { durations = o.durations ++ later.durations; changes = o.changes + later.changes }

-- RULES, Refusals: 7 for a target, then 8 for a start above 65,536 frames; the tail has no target, and 8 for its natural durations
abbrev pub refusal_to_end : States → ℕ → End → ℕ
refusal_to_end ss frames (At x) = refusal_to ss (target_of x frames)
refusal_to_end ss frames Open = cond (ltb most_frames (total (naturals ss))) 8 0

-- RULES, Refusals: of a group those come first, then 8 for the total with the groups before it
unfoldable pub refusal_of : States → Group → ℕ → ℕ
refusal_of ss g frames =
    or_else (refusal_to_end (states_in g ss) frames g.end)
    (cond (ltb most_frames (frames + total (fit_of ss g frames).durations)) 8 0)

-- of the first group that is refused
unfoldable pub refusal_along : States → List Group → ℕ → ℕ
refusal_along ss [] frames = 0
refusal_along ss (g ∷ gs) frames = or_else (refusal_of ss g frames) (refusal_along ss gs (frames + total (fit_of ss g frames).durations))
