-- The groups of an alignment, label by label.
use mathlib.Core.Path.{◌≡◌, refl, sym, ap, ◌∙◌}
use mathlib.Core.Bool.{true, false, cond}
use mathlib.Core.List.{List, [], ◌∷◌, ◌++◌, append_assoc}
use Prim.Native.Nat.{ℕ, zero, suc, ◌+◌, ◌*◌, ◌≤◌, ◌<◌}
use native.Mathlib.Nat.{zero-mul, suc-mul}
use native.Mathlib.Omega.{arith}
use lib.ListN.{length, get_or, drop}
use lib.Seq.{drop-cons}
use lib.Ieee.{Float, nan, le}
use Rattle.floats.specs.Numbers.{nought}
use Rattle.duration.specs.Align.{end_of, Group, given, closing, groups}
use Rattle.duration.specs.Drift.{closed_before, Stands}

-- no more states are closed than labels have come
pub closed-most : (k : ℕ) (ends : List Float) (i : ℕ) → closed_before k ends i ≤ i * k
unfolding closed_before
closed-most k ends zero = omega arith
closed-most k ends (suc i) = elim (le nought (get_or ends i nan)) as (λ s. cond s (suc i * k) (closed_before k ends i) ≤ suc i * k) [ true ↦ omega arith | false ↦ omega (arith, closed-most k ends i, suc-mul i k) ]

-- label i is the first of those that are left
module _ (k : ℕ) (ends : List Float) (i done : ℕ) (here : i < length ends) where
  pub groups-next : (first : ℕ) → groups k done first (drop i ends) ≡ closing done (first + k) (end_of (get_or ends i nan)) (λ d. groups k d (first + k) (drop (suc i) ends))
  unfolding groups
  groups-next first = ap (λ (es : List Float). groups k done first es) (drop-cons ends i nan here)

  -- with an end, and open
  pub groups-given : le nought (get_or ends i nan) ≡ true → groups k done (i * k) (drop i ends) ≡ given done (suc i * k) (get_or ends i nan) ∷ groups k (suc i * k) (suc i * k) (drop (suc i) ends)
  groups-given at = groups-next (i * k) ∙ rw (at, suc-mul i k)

  pub groups_open : le nought (get_or ends i nan) ≡ false → groups k done (i * k) (drop i ends) ≡ groups k done (suc i * k) (drop (suc i) ends)
  groups_open at = groups-next (i * k) ∙ rw (at, suc-mul i k)

-- the group that a label closes is one of the alignment's
module _ (k : ℕ) (ends : List Float) where
  -- those before label i, and those from there on
  groups-split : (i : ℕ) → i ≤ length ends → (front : List Group) × (groups k 0 0 ends ≡ front ++ groups k (closed_before k ends i) (i * k) (drop i ends))
  unfolding closed_before
  groups-split zero h = ([], rw (zero-mul k))
  groups-split (suc i) h =
      (elim (le nought (get_or ends i nan)) as (λ s. le nought (get_or ends i nan) ≡ s → (front : List Group) × (groups k 0 0 ends ≡ front ++ groups k (cond s (suc i * k) (closed_before k ends i)) (suc i * k) (drop (suc i) ends))) [
        | true ↦ λ at.
            let w = groups-split i (omega arith) in
            let g : Group = given (closed_before k ends i) (suc i * k) (get_or ends i nan) in
            (w.0 ++ (g ∷ []), w.1 ∙ ap (λ (l : List Group). w.0 ++ l) (groups-given k ends i (closed_before k ends i) h at) ∙ sym (append_assoc w.0 (g ∷ []) _))
        | false ↦ λ at. (let w = groups-split i (omega arith) in (w.0, w.1 ∙ ap (λ (l : List Group). w.0 ++ l) (groups_open k ends i (closed_before k ends i) h at)))
      ])
      refl

  pub label_group : (i : ℕ) → i < length ends → le nought (get_or ends i nan) ≡ true → Stands (given (closed_before k ends i) (suc i * k) (get_or ends i nan)) (groups k 0 0 ends)
  label_group i h at =
      let w = groups-split i (omega arith) in
      record { front = w.0; rest = groups k (suc i * k) (suc i * k) (drop (suc i) ends); is = w.1 ∙ ap (λ (l : List Group). w.0 ++ l) (groups-given k ends i (closed_before k ends i) h at) }
