-- Where a voice goes: its own place, or the first that is free; and which places are free.
use mathlib.Core.Path.{◌≡◌, refl, sym, ap, ◌∙◌}
use mathlib.Core.Bool.{Bool, true, false, ◌||◌}
use mathlib.Core.Logic.{⊎_elim}
use mathlib.Core.List.{List, [], ◌∷◌}
use Rattle.std.specs.Prelude.{Option, Some, None}
use Rattle.std.specs.Bool.{then_some}
use Prim.Native.Nat.{ℕ, zero, suc, ◌+◌, ◌≤◌, ◌<◌, zero-le}
use native.Mathlib.Numerals.{add-one}
use native.Mathlib.Omega.{arith}
use borrow.Author.Tests.{lt-ltb, le-ltb}
use lib.Dec.{ltb}
use lib.ListN.{length, drop, get_or, drop_of_length-le}
use lib.Seq.{drop-cons}
use Rattle.lists.specs.Frames.{count}
use Rattle.lists.specs.Firsts.{first_at}
use Rattle.lists.proofs.Numbers.{le_or_lt}
use Rattle.lists.proofs.Counts.{count_most}
use Rattle.lists.proofs.Fills.{build-length}
use Rattle.lists.proofs.Builds.{build-at}
use Rattle.lists.proofs.Firsts.{first-within}
use Rattle.settings.specs.Store.{holds_at, holding, held_in, is_held, first_off, free_place}
use Rattle.settings.specs.Changes.{place_for}
use Rattle.settings.specs.Inner.Steps.{PlaceGiven}

-- ---- the first that is off

pub off-within : (bs : List Bool) → first_off bs ≤ length bs
unfolding first_off
off-within [] = zero-le
off-within (true ∷ bs) = omega (arith, off-within bs)
off-within (false ∷ bs) = zero-le

-- all are on where none is off, and not all where one is
pub all-on : (bs : List Bool) → first_off bs ≡ length bs → count bs ≡ length bs
unfolding first_off count
all-on [] e = refl
all-on (true ∷ bs) e = ap suc (all-on bs (omega arith))
all-on (false ∷ bs) e = absurd (omega arith)

pub one-off : (bs : List Bool) → first_off bs < length bs → count bs < length bs
unfolding first_off count
one-off [] h = absurd (omega arith)
one-off (true ∷ bs) h = omega (arith, one-off bs (omega arith))
one-off (false ∷ bs) h = omega (arith, count_most bs)

-- it is off, and those before it are on
pub off-there : (bs : List Bool) → first_off bs < length bs → get_or bs (first_off bs) true ≡ false
unfolding first_off
off-there [] h = absurd (omega arith)
off-there (true ∷ bs) h = off-there bs (omega arith)
off-there (false ∷ bs) h = refl

pub on-before : (bs : List Bool) (i : ℕ) (z : Bool) → i < first_off bs → get_or bs i z ≡ true
unfolding first_off
on-before [] i z h = absurd (omega arith)
on-before (true ∷ bs) zero z h = refl
on-before (true ∷ bs) (suc i) z h = on-before bs i z (omega arith)
on-before (false ∷ bs) i z h = absurd (omega arith)

pub off_at : (bs : List Bool) (i : ℕ) (z : Bool) → i < length bs → get_or bs i z ≡ false → ((j : ℕ) → j < i → get_or bs j z ≡ true) → first_off bs ≡ i
unfolding first_off
off_at [] i z h e b = absurd (omega arith)
off_at (true ∷ bs) zero z h e b = absurd (let q : ◌≡◌ {A = ℕ} 0 1 = cc in omega arith)
off_at (true ∷ bs) (suc i) z h e b = ap suc (off_at bs i z (omega arith) e (λ j l. b (suc j) (omega arith)))
off_at (false ∷ bs) zero z h e b = refl
off_at (false ∷ bs) (suc i) z h e b = absurd (let q : false ≡ true = b 0 (omega arith) in let z : ◌≡◌ {A = ℕ} 0 1 = cc in omega arith)

-- ---- which places hold a voice

pub holding-long : (voices : List ℕ) → length (holding voices) ≡ length voices
unfolding holding
holding-long voices = build-length (holds_at voices) (length voices)

pub holding-at : (voices : List ℕ) (i : ℕ) (z : Bool) → i < length voices → get_or (holding voices) i z ≡ holds_at voices i
unfolding holding
holding-at voices i z h = build-at (holds_at voices) (length voices) i z h

-- a loop that looks for a free place has found none among the first i
pub record Looking (voices : List ℕ) (i : ℕ) : Type 0 where
  pub within : i ≤ length voices
  pub rest : free_place voices ≡ i + first_off (drop i (holding voices))

pub looking : (voices : List ℕ) → Looking voices 0
looking voices = record { within = zero-le; rest = omega arith }

module _ {voices : List ℕ} {i : ℕ} (k : Looking voices i) where
  pub none_free : length voices ≤ i → i ≡ free_place voices
  unfolding first_off
  none_free h =
      let l : length (holding voices) ≤ i = rw (holding-long voices) h in
      let z : first_off (drop i (holding voices)) ≡ 0 = ap first_off (drop_of_length-le (holding voices) l) in
      omega (arith, k.rest)

  module _ (h : i < length voices) where
    from_here : drop i (holding voices) ≡ holds_at voices i ∷ drop (i + 1) (holding voices)
    from_here = drop-cons (holding voices) i true (rw (holding-long voices) h) ∙ rw (holding-at voices i true h, add-one)

    pub free-here : holds_at voices i ≡ false → i ≡ free_place voices
    unfolding first_off
    free-here e =
        let z : first_off (drop i (holding voices)) ≡ 0 = ap first_off from_here ∙ rw e in
        omega (arith, k.rest)

    pub look_next : holds_at voices i ≡ true → Looking voices (i + 1)
    unfolding first_off
    look_next e =
        let z : first_off (drop i (holding voices)) ≡ suc (first_off (drop (i + 1) (holding voices))) = ap first_off from_here ∙ rw e in
        record { within = omega arith; rest = omega (arith, k.rest) }

-- ---- a place that is looked for

-- is given where the list has it
pub place-given : (p first : ℕ) (voices : List ℕ) (r : Option ℕ) → p ≡ first → first ≤ length voices → r ≡ then_some (ltb p (length voices)) p → PlaceGiven r first voices
place-given p first voices r e h q = rw q (⊎_elim
    (λ (g : length voices ≤ p). rw (le-ltb p (length voices) g) (omega arith))
    (λ (g : p < length voices). rw (lt-ltb p (length voices) g) (e, g))
    (le_or_lt (length voices) p))

-- so it is where one is given, and the list doesn't have it where none is
pub place-there : (o : Option ℕ) (p first : ℕ) (voices : List ℕ) → o ≡ Some p → PlaceGiven o first voices → (p ≡ first) × (p < length voices)
place-there o p first voices e g = rw e at g

pub none-there : (o : Option ℕ) (first : ℕ) (voices : List ℕ) → o ≡ None → PlaceGiven o first voices → first ≡ length voices
none-there o first voices e g = rw e at g

-- ---- where a voice goes

module _ (voice : ℕ) (voices : List ℕ) where
  pub own-place : first_at voice voices < length voices → first_at voice voices ≡ place_for voice voices
  own-place h = rw (lt-ltb (first_at voice voices) (length voices) h)

  pub free-place : length voices ≤ first_at voice voices → free_place voices ≡ place_for voice voices
  free-place h = rw (le-ltb (first_at voice voices) (length voices) h)

  pub place-within : place_for voice voices ≤ length voices
  place-within = ⊎_elim
      (λ (h : length voices ≤ first_at voice voices). rw (← free-place h) (rw (← holding-long voices) (off-within (holding voices))))
      (λ (h : first_at voice voices < length voices). rw (← own-place h) (first-within voice voices))
      (le_or_lt (length voices) (first_at voice voices))

  -- there is no place exactly where the voice isn't held and all places hold others
  module _ (n : ℕ) (e : length voices ≡ n) where
    pub no_place : place_for voice voices ≡ n → is_held voice voices || ltb (held_in voices) n ≡ false
    no_place q = ⊎_elim
        (λ (h : length voices ≤ first_at voice voices).
        let f : first_off (holding voices) ≡ length (holding voices) = free-place h ∙ q ∙ sym (holding-long voices ∙ e) in
        let m : held_in voices ≡ length voices = all-on (holding voices) f ∙ holding-long voices in
        rw (le-ltb (first_at voice voices) (length voices) h) (le-ltb (held_in voices) n (omega arith)))
        (λ (h : first_at voice voices < length voices). absurd (omega (arith, own-place h)))
        (le_or_lt (length voices) (first_at voice voices))

    pub some-place : place_for voice voices < n → is_held voice voices || ltb (held_in voices) n ≡ true
    some-place l = ⊎_elim
        (λ (h : length voices ≤ first_at voice voices).
        let f : first_off (holding voices) < length (holding voices) = rw (holding-long voices) (omega (arith, free-place h)) in
        let m : held_in voices < n = omega (arith, one-off (holding voices) f, holding-long voices) in
        rw (le-ltb (first_at voice voices) (length voices) h) (lt-ltb (held_in voices) n m))
        (λ (h : first_at voice voices < length voices). rw (lt-ltb (first_at voice voices) (length voices) h))
        (le_or_lt (length voices) (first_at voice voices))
