-- RULES, Durations, no drift: where the running total of an alignment stands at each given end.
use Rattle.std.specs.Prelude.{◌≡◌, true, false, cond, ◌↔◌, List, ◌∷◌, ◌++◌, ℕ, zero, suc, ◌+◌, ◌-◌, ◌*◌, ◌^◌, ◌≤◌, ◌<◌, max, length, get_or, take, drop, Float}
use Rattle.std.specs.Float.{nan, binary64}
use Rattle.std.specs.Float.Ieee.{sub, le}
use Rattle.std.specs.Float.Ieee.Exact.{HasValue}
use Rattle.std.specs.Float.Ieee.Positive.{num, den}
use Rattle.lists.specs.Totals.{total, gap}
use Rattle.floats.specs.Rounding.{nearest_half}
use Rattle.floats.specs.Numbers.{nought, number}
use Rattle.duration.specs.Align.{Group, target_of}

-- RULES, Durations: the end is a fraction of whole numbers; the float x is a / c
pub record Fraction (x : Float) (a c : ℕ) : Type 0 where
  pub some : 0 < c
  pub is : HasValue x false a c

-- RULES, Durations: n is the end x rounded with halves up, and twice the distance of the two is at most 1. So it is as whichever fraction x is
-- written, and one is `num` / `den`.
pub record HalvesUp (x : Float) (n : ℕ) : Type 0 where
  pub fraction : Fraction x (num x) (den x)
  pub rounded : (a c : ℕ) → Fraction x a c → n ≡ nearest_half a c
  pub near : (a c : ℕ) → Fraction x a c → 2 * gap (n * c) a ≤ c

-- the end rounded with halves up, as a number; -0 is 0
abbrev pub end_rounded : Float → ℕ
end_rounded x = nearest_half (num x) (den x)

-- RULES, Durations: of an end x that closes a group whose shortest sum to `low`, after `before` frames, and the total that is reached there. With
-- room, a target above that sum, it is the end rounded, and else that sum more than before; so it is the larger of the two, always.
pub record OnTime (x : Float) (before low reached : ℕ) : Type 0 where
  pub room : (low < target_of x before) ↔ (before + low < end_rounded x)
  pub right : low < target_of x before → HalvesUp x reached
  pub short : target_of x before ≤ low → reached ≡ before + low
  pub larger : reached ≡ max (end_rounded x) (before + low)

-- RULES, Durations: a label with an end closes all states since the last closed one; before label i, of k states a label, so many are closed
unfoldable pub closed_before : ℕ → List Float → ℕ → ℕ
closed_before k ends zero = 0
closed_before k ends (suc i) = cond (le nought (get_or ends i nan)) (suc i * k) (closed_before k ends i)

-- the running total of the first n states
abbrev pub up_to : ℕ → List ℕ → ℕ
up_to n ds = total (take n ds)

-- of label i: the frames before its group, the group's states and the sum of their shortest, and the running total at the label's end
abbrev pub frames_before : ℕ → List Float → List ℕ → ℕ → ℕ
frames_before k ends ds i = up_to (closed_before k ends i) ds

abbrev pub group_states : ℕ → List Float → ℕ → ℕ
group_states k ends i = suc i * k - closed_before k ends i

abbrev pub group_least : ℕ → List Float → List ℕ → ℕ → ℕ
group_least k ends ls i = up_to (group_states k ends i) (drop (closed_before k ends i) ls)

abbrev pub total_at : ℕ → List ℕ → ℕ → ℕ
total_at k ds i = up_to (suc i * k) ds

-- RULES, Durations: at each label with a given end
abbrev pub NoDrift : ℕ → List Float → List ℕ → List ℕ → Type 0
NoDrift k ends ls ds = (i : ℕ) → i < length ends → le nought (get_or ends i nan) ≡ true → OnTime (get_or ends i nan) (frames_before k ends ds i) (group_least k ends ls i) (total_at k ds i)

-- a group is one of an alignment's
pub record Stands (g : Group) (gs : List Group) : Type 0 where
  pub front : List Group
  pub rest : List Group
  pub is : gs ≡ front ++ (g ∷ rest)

-- RULES, Durations: the end that a part is given for the chapter's end x, after the frames of all parts before it: x less these, and 0 where x is
-- below them
pub data PartEnd (x : Float) (frames : ℕ) : Float → Type 0 where
  ahead : (a c : ℕ) → Fraction x a c → a < 2 ^ 53 * c → frames * c ≤ a → PartEnd x frames (sub binary64 x (number frames))
  behind : num x < frames * den x → PartEnd x frames nought
