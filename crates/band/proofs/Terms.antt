-- Laws of the paper's terms: which frames have none, and what a frame's taps add to a row.
use mathlib.Core.Path.{◌≡◌, refl, sym, ap, ◌∙◌}
use mathlib.Core.Bool.{Bool, true, false, cond, true≢false}
use mathlib.Core.List.{List, [], ◌∷◌, ◌++◌}
use mathlib.Core.Logic.{⊎_elim}
use Prim.Native.Nat.{ℕ, zero, suc, ◌+◌, ◌-◌, ◌/◌, ◌<◌, ◌≤◌, min}
use native.Mathlib.Omega.{arith}
use borrow.Author.Tests.{lt-ltb, le-ltb}
use lib.Dec.{T, ltb}
use lib.ListN.{length, get_or, set, drop, length-take, length-drop, get_or-eq_default}
use lib.Seq.{get_or-take, get_or-drop}
use lib.Ieee.{Float, nan, binary64, of_bits, add, mul, eq}
use lib.Ieee.Scale.{finite}
use Rattle.lists.specs.Build.{build, over}
use Rattle.lists.proofs.Flags.{either}
use Rattle.lists.proofs.Orders.{over-idle}
use Rattle.lists.proofs.Fills.{build-length, build-next, build-read}
use Rattle.lists.proofs.Numbers.{le_or_lt}
use Rattle.floats.specs.Numbers.{nought}
use Rattle.floats.proofs.Signs.{nought-zero, zero-finite}
use Rattle.model.specs.Windows.{all_finite}
use Rattle.model.proofs.Windows.{finite-part}
use Rattle.region.specs.Rows.{elem}
use Rattle.lists.specs.Parts.{part}
use Rattle.band.specs.Paper.{W, plus_term, term, right_term}
use Rattle.band.specs.Inner.Fits.{on_row}
use Rattle.lists.proofs.Builds.{build-at, build_is, build-same, build-rest}

pub eq-nought : eq nought nought ≡ true
unfolding eq of_bits
eq-nought = refl

-- a choice between two that are the same
pub either_way : (b : Bool) (y : Float) → cond b y y ≡ y
either_way true y = refl
either_way false y = refl

-- with a default that is not looked at
pub same_at : (xs : List Float) (k : ℕ) (d e : Float) → k < length xs → get_or xs k d ≡ get_or xs k e
same_at [] k d e l = absurd (omega arith)
same_at (x ∷ xs) zero d e l = refl
same_at (x ∷ xs) (suc k) d e l = same_at xs k d e (omega arith)

-- past the taps nothing is added
pub added-past : (wu : Float) (taps : List Float) (j : ℕ) (y : Float) → length taps ≤ j → plus_term wu (get_or taps j nought) y ≡ y
added-past wu taps j y l = rw (get_or-eq_default taps nought l, eq-nought)

-- ---- taps added to a row d: j entries are done, and the rest is as it was

module _ (wu : Float) (taps d : List Float) where
  abbrev plus : ℕ → Float
  plus j = plus_term wu (get_or taps j nought) (elem d j)

  pub add-next : (row : List Float) (j : ℕ) (x : Float) → j < length taps → length taps ≤ length d → row ≡ build plus j ++ drop j d → x ≡ plus_term wu (elem taps j) (elem row j)
      → set row j x ≡ build plus (j + 1) ++ drop (j + 1) d
  add-next row j x h l e v =
      build-next plus d row j x nan (omega arith) (v ∙ rw (same_at taps j nan nought h, build-read plus d row j nan (omega arith) e)) e

  pub add_done : (row : List Float) (j : ℕ) → length taps ≤ j → j ≤ length taps → length taps ≤ length d → row ≡ build plus j ++ drop j d → row ≡ build plus (length d)
  add_done row j h k l e = e ∙ build-rest plus d j nan (omega arith) (λ i a b. sym (added-past wu taps i (elem d i) (omega arith)))

-- ---- a row's entries

module _ (n t : ℕ) where
  -- what does nothing
  pub on_row-idle : (h : ℕ → Float → Float) (row : List Float) → ((s : ℕ) (y : Float) → h s y ≡ y) → row ≡ on_row n t h row
  unfolding on_row
  on_row-idle h row e = build_is _ (length row) row nan refl (λ j l. sym (pick (ltb (t + j) n) (elem row j) (h (t + j) (elem row j)) (e (t + j) (elem row j))))
    where
      pick : (b : Bool) (y z : Float) → z ≡ y → cond b z y ≡ y
      pick true y z e = e
      pick false y z e = refl

  pub on_row-same : (g h : ℕ → Float → Float) (row : List Float) → ((s : ℕ) (y : Float) → g s y ≡ h s y) → on_row n t g row ≡ on_row n t h row
  unfolding on_row
  on_row-same g h row e = build-same _ _ (length row) (λ j l. rw (e (t + j) (elem row j)))

  -- one after the other
  pub on_row-then : (g h : ℕ → Float → Float) (row : List Float) → on_row n t h (on_row n t g row) ≡ on_row n t (λ s y. h s (g s y)) row
  unfolding on_row
  on_row-then g h row =
      let G : ℕ → Float = λ j. cond (ltb (t + j) n) (g (t + j) (elem row j)) (elem row j) in
      rw (build-length G (length row))
      (build-same _ _ (length row) (λ j l. rw (build-at G (length row) j nan l) (twice (ltb (t + j) n) (h (t + j)) (g (t + j) (elem row j)) (elem row j))))
    where
      twice : (b : Bool) (h : Float → Float) (x y : Float) → cond b (h (cond b x y)) (cond b x y) ≡ cond b (h x) y
      twice true h x y = refl
      twice false h x y = refl

-- ---- coefficients

module _ (taps : List Float) where
  abbrev half : ℕ
  half = length taps / 2

  pub W-own : (t f : ℕ) → f ≤ t + half → t + half - f < length taps → W taps f t ≡ elem taps (t + half - f)
  unfolding W
  W-own t f l b = rw (le-ltb (t + half) f l) (same_at taps (t + half - f) nought nan b)

  -- j columns further it is the tap j places further on
  pub W-tap : (t j f : ℕ) → f ≤ t + half → W taps f (t + j) ≡ get_or taps (t + half - f + j) nought
  unfolding W
  W-tap t j f l =
      let z : t + j + half - f ≡ t + half - f + j = omega arith in
      rw (le-ltb (t + j + half) f (omega arith), z)

  pub W-beyond : (t f : ℕ) → t + half < f → W taps f t ≡ nought
  unfolding W
  W-beyond t f l = rw (lt-ltb (t + half) f l)

  pub W-short : (t f : ℕ) → f ≤ t + half → length taps ≤ t + half - f → W taps f t ≡ nought
  unfolding W
  W-short t f l b = rw (le-ltb (t + half) f l, get_or-eq_default taps nought b)

  -- n frames and n columns further on it is the same
  pub W-further : (n f t : ℕ) → W taps (n + f) (n + t) ≡ W taps f t
  unfolding W
  W-further n f t =
      let e : n + t + half - (n + f) ≡ t + half - f = omega arith in
      ⊎_elim
      (λ (l : f ≤ t + half). rw (le-ltb (n + t + half) (n + f) (omega arith), le-ltb (t + half) f l, e))
      (λ (l : t + half < f). rw (lt-ltb (n + t + half) (n + f) (omega arith), lt-ltb (t + half) f l))
      (le_or_lt f (t + half))

  -- row t has one for frame f only where the taps reach so far
  module _ (t f : ℕ) (some : eq (W taps f t) nought ≡ false) where
    present : W taps f t ≡ nought → ⊥
    present e = true≢false (sym eq-nought ∙ ap (λ (c : Float). eq c nought) (sym e) ∙ some)

    pub reached-back : f ≤ t + length taps / 2
    reached-back = ⊎_elim (λ (l : f ≤ t + half). l) (λ (l : t + half < f). absurd (present (W-beyond t f l))) (le_or_lt f (t + half))

    pub reached-on : t + length taps / 2 < f + length taps
    reached-on = ⊎_elim
        (λ (l : length taps ≤ t + half - f). absurd (present (W-short t f reached-back l)))
        (λ (l : t + half - f < length taps). omega (arith, reached-back))
        (le_or_lt (length taps) (t + half - f))

-- it is finite where the numbers are of which the taps are some
pub finite_W : (xs : List Float) (a w f t : ℕ) → all_finite xs ≡ true → T (finite (W (part a w xs) f t))
unfolding W
finite_W xs a w f t h =
    let taps : List Float = part a w xs in
    either (λ c. T (finite c)) (ltb (t + half taps) f) nought _ (zero-finite nought nought-zero) (finite-part xs a w (t + half taps - f) h)

-- a part's number, where the part has all that the list has
pub part-read : (xs : List Float) (k m j : ℕ) (z : Float) → (m ≤ j → length xs ≤ k + j) → get_or (part k m xs) j z ≡ get_or xs (k + j) z
part-read xs k m j z h = ⊎_elim
    (λ (g : m ≤ j). let past : length xs ≤ k + j = h g in
    let short : length (part k m xs) ≤ j = simp (length-take, length-drop) (omega arith) in get_or-eq_default (part k m xs) z short ∙ sym (get_or-eq_default xs z past))
    (λ (g : j < m). get_or-take m (drop k xs) j z g ∙ get_or-drop k xs j z)
    (le_or_lt m j)

-- ---- only the frames that a window's taps reach from row t have a term

module _ (taps : List Float) (t : ℕ) (g : ℕ → Float → Float) (idle : (f : ℕ) (y : Float) → eq (W taps f t) nought ≡ true → g f y ≡ y) where
  pub frames-before : (f : ℕ) (y : Float) → f ≤ t + half taps + 1 - length taps → over g f y ≡ y
  unfolding over
  frames-before f y h = over-idle g 0 f y (omega arith) (λ i z a b. idle i z (rw (W-short taps t i (omega arith) (omega arith)) eq-nought))

  pub frames-behind : (n f : ℕ) (y : Float) → f ≡ min n (t + half taps + 1) → over g n y ≡ over g f y
  frames-behind n f y e = over-idle g f n y (omega arith) (λ i z a b. idle i z (rw (W-beyond taps t i (omega arith)) eq-nought))

-- ---- a frame with a zero coefficient adds nothing

module _ (taps ivars means : List Float) (t f : ℕ) (zero : eq (W taps f t) nought ≡ true) where
  pub term-idle : (s : ℕ) (y : Float) → term taps ivars t s f y ≡ y
  unfolding term
  term-idle s y = rw zero

  pub right-idle : (y : Float) → right_term taps ivars means t f y ≡ y
  unfolding right_term
  right-idle y = rw zero

-- ---- a frame within the reach of the taps

module _ (taps ivars means : List Float) (t f : ℕ) (l : f ≤ t + length taps / 2) (b : t + length taps / 2 - f < length taps) (c : Float) (own : c ≡ elem taps (t + length taps / 2 - f)) where
  is_own : W taps f t ≡ c
  is_own = W-own taps t f l b ∙ sym own

  pub frame-zero : (row : List Float) (right : Float) → eq c nought ≡ true
      → (row ≡ on_row (length ivars) t (λ s. term taps ivars t s f) row) × (right ≡ right_term taps ivars means t f right)
  frame-zero row right z =
      let e : eq (W taps f t) nought ≡ true = rw is_own z in
      (on_row-idle (length ivars) t (λ s. term taps ivars t s f) row (term-idle taps ivars means t f e), sym (right-idle taps ivars means t f e right))

  pub frame_right : (right : Float) → eq c nought ≡ false → add binary64 right (mul binary64 (mul binary64 c (elem ivars f)) (elem means f)) ≡ right_term taps ivars means t f right
  unfolding right_term
  frame_right right z = rw (is_own, z)

  -- the taps from the frame's own on, as far as the row goes
  reached : (j m : ℕ) → m ≡ min (length ivars - t) (length taps - (t + length taps / 2 - f)) → t + j < length ivars → get_or (part (t + length taps / 2 - f) m taps) j nought ≡ W taps f (t + j)
  reached j m e h = part-read taps (t + length taps / 2 - f) m j nought (λ g. omega arith) ∙ sym (W-tap taps t j f l)

  pub frame_row : (row : List Float) (m : ℕ) → eq c nought ≡ false → m ≡ min (length ivars - t) (length taps - (t + length taps / 2 - f))
      → build (λ j. plus_term (mul binary64 c (elem ivars f)) (get_or (part (t + length taps / 2 - f) m taps) j nought) (elem row j)) (length row)
      ≡ on_row (length ivars) t (λ s. term taps ivars t s f) row
  unfolding on_row term
  frame_row row m z e =
      build-same _ _ (length row)
      (λ j h. ⊎_elim
      (λ (g : length ivars ≤ t + j). rw (le-ltb (t + j) (length ivars) g)
      (added-past (mul binary64 c (elem ivars f)) (part (t + length taps / 2 - f) m taps) j (elem row j) (rw length-take (omega arith))))
      (λ (g : t + j < length ivars). rw (lt-ltb (t + j) (length ivars) g, reached j m e g, is_own, z))
      (le_or_lt (length ivars) (t + j)))
