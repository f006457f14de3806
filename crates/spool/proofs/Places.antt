-- Places of the spool.
use mathlib.Core.Path.{◌≡◌, refl, sym, ap, ◌∙◌}
use mathlib.Core.List.{[], ◌∷◌}
use mathlib.Core.Logic.{◌⊎◌, inl, ⊎_elim}
use Prim.Native.Nat.{ℕ, ◌+◌, ◌*◌, ◌^◌, ◌<◌, ◌≤◌}
use native.Mathlib.Nat.{le_antisymm, suc-mul}
use native.Mathlib.Numerals.{add-one}
use native.Mathlib.Omega.{arith}
use lib.Dec.{lit<}
use Rattle.lists.proofs.Numbers.{le_or_lt}
use Rattle.lists.proofs.Rows.{row_in}
use Rattle.lists.proofs.Answers.{accepted_is}
use Rattle.spool.specs.Place.{place_of}
use Rattle.spool.specs.Refusal.{place_refusal}
use Rattle.std.proofs.Common.{Ok}
use Rattle.lists.specs.Ends.{counted}
use Rattle.spool.specs.Promise.{PlaceSays}
use Rattle.spool.specs.Refusal.Laws.{place_accepts}
use Rattle.spool.proofs.Sums.{product-fits}

-- the next component stands 8 bytes further, and after a frame's last component so does the next frame's first
pub places-apart : (frame component v : ℕ) → (place_of frame (component + 1) v ≡ place_of frame component v + 8) × (component + 1 ≡ v → place_of (frame + 1) 0 v ≡ place_of frame component v + 8)
places-apart frame component v = (omega arith, λ e. let m : (frame + 1) * v ≡ frame * v + v = rw add-one (suc-mul frame v) in omega arith)

module _ (v frame component frame' component' : ℕ) (within : component < v) where
  -- of two numbers the one of an earlier frame, or an earlier component of the same, has its 8 bytes before the other
  pub places_in_order : (frame < frame') ⊎ ((frame ≡ frame') × (component < component')) → place_of frame component v + 8 ≤ place_of frame' component' v
  places_in_order = ⊎_elim
      (λ (h : frame < frame'). omega (arith, row_in v frame frame' component h within))
      (λ (h : (frame ≡ frame') × (component < component')). rw (← h.0) (omega (arith, h.1)))

-- one place is one frame and one component
pub places_differ : (v frame component frame' component' : ℕ) → component < v → component' < v → place_of frame component v ≡ place_of frame' component' v → (frame ≡ frame') × (component ≡ component')
places_differ v frame component frame' component' w w' e = ⊎_elim
    (λ (h : frame ≤ frame').
    ⊎_elim
    (λ (k : frame' ≤ frame).
    let f : frame ≡ frame' = le_antisymm h k in
    let m : frame * v ≡ frame' * v = ap (λ (n : ℕ). n * v) f in
    (f, omega arith))
    (λ (k : frame < frame'). absurd (omega (arith, places_in_order v frame component frame' component' w (inl k))))
    (le_or_lt frame' frame))
    (λ (h : frame' < frame). absurd (omega (arith, places_in_order v frame' component' frame component w' (inl h))))
    (le_or_lt frame frame')

-- so two calls that give one place were asked for one frame and one component
pub answers_differ : (v frame component frame' component' place : ℕ) → PlaceSays frame component v (Ok place) → PlaceSays frame' component' v (Ok place) → (frame ≡ frame') × (component ≡ component')
answers_differ v frame component frame' component' place a b =
    places_differ v frame component frame' component' (place_accepts component v (given-at frame component a).0).1 (place_accepts component' v (given-at frame' component' b).0).1 (sym (given-place frame component a) ∙ given-place frame' component' b)
  where
    given-at : (frame component : ℕ) → PlaceSays frame component v (Ok place) → (place_refusal component v ≡ 0) × (place ∷ [] ≡ place_of frame component v ∷ [])
    given-at frame component s = accepted_is (counted (Ok place)) _ _ s refl

    given-place : (frame component : ℕ) → PlaceSays frame component v (Ok place) → place ≡ place_of frame component v
    given-place frame component s = let e : place ∷ [] ≡ place_of frame component v ∷ [] = (given-at frame component s).1 in cc e

-- no frame of 32 bits has a place past that of frame 4,294,967,295, component 63 of 64
pub place-most : (frame component v : ℕ) → frame < 2 ^ 32 → component < v → v ≤ 64 → place_of frame component v ≤ place_of 4294967295 63 64
place-most frame component v f c w =
    let m : frame * v ≤ 4294967295 * 64 = product-fits 4294967295 frame v (omega arith) w in
    omega arith

-- which is 2,199,023,255,544 and fits 64 bits
pub last-place : place_of 4294967295 63 64 ≡ 2199023255544
last-place = refl

pub last_fits : place_of 4294967295 63 64 < 2 ^ 64
last_fits = lit< tt
