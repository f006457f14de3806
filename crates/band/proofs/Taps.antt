-- Laws of a window's taps: what tap k adds at the rows for which it stands at a frame, and all taps one after the other.
use mathlib.Core.Path.{◌≡◌, refl, sym, ap, subst, ◌∙◌}
use mathlib.Core.Bool.{true, false}
use mathlib.Core.List.{List}
use mathlib.Core.Logic.{inl, ⊎_elim}
use Prim.Native.Nat.{ℕ, ◌+◌, ◌-◌, ◌/◌, ◌<◌, ◌≤◌, min, max}
use native.Mathlib.Nat.{add-zero}
use native.Mathlib.Omega.{arith}
use borrow.Author.Tests.{lt-ltb, le-ltb, le-leb, lt-leb}
use lib.Dec.{ltb}
use lib.ListN.{length, get_or}
use lib.Ieee.{Float, nan, binary64, add, mul, eq}
use Rattle.lists.specs.Build.{over}
use Rattle.lists.specs.Parts.{part}
use Rattle.lists.proofs.Numbers.{le_or_lt}
use Rattle.lists.proofs.Orders.{over-step}
use Rattle.lists.proofs.Regions.{cut-length}
use Rattle.floats.specs.Numbers.{nought}
use Rattle.region.specs.Rows.{elem}
use Rattle.region.proofs.Readings.{part_elem}
use Rattle.band.specs.Paper.{W, plus_term, term, right_term}
use Rattle.band.specs.Inner.Passes.{rows_between, Room, Moved, Ready, inside, tap_column, side_of, Stands, Window, window_in, at_frame, tap_entry, tap_side, window_entry, window_side}
use Rattle.band.specs.declared.passes.Block.{Block}
use Rattle.band.proofs.Terms.{either_way, W-own, W-tap, part-read, frames-before, frames-behind, term-idle, right-idle}
use Rattle.band.proofs.Moves.{moved_none, moved_then, moved_same, moved-some, part-kept}

-- ---- the frame that row t's tap k stands at, if there is one

module _ (half n k t : ℕ) where
  abbrev There : Type 0
  There = (k ≤ t + half) × (t + half - k < n)

  at-frame : (h : ℕ → Float → Float) (y : Float) → There → at_frame half n k t h y ≡ h (t + half - k) y
  at-frame h y s = rw (le-leb k (t + half) s.0, lt-ltb (t + half - k) n s.1)

  at_none : (h : ℕ → Float → Float) (y : Float) → (There → h (t + half - k) y ≡ y) → at_frame half n k t h y ≡ y
  at_none h y e = ⊎_elim
      (λ (a : k ≤ t + half). ⊎_elim
      (λ (b : n ≤ t + half - k). rw (le-leb k (t + half) a, le-ltb (t + half - k) n b))
      (λ (b : t + half - k < n). at-frame h y (a, b) ∙ e (a, b))
      (le_or_lt n (t + half - k)))
      (λ (a : t + half < k). rw (lt-leb k (t + half) a))
      (le_or_lt k (t + half))

-- the rows of a block at which it does
less-min : (a b : ℕ) → a - min a b ≡ a - b
less-min a b = omega arith

pub stands : (width k : ℕ) (b : Block) (x y z from to : ℕ) → x ≡ min (width / 2) k → y ≡ min k (width / 2) → from ≡ max b.from (k - y) → z ≡ min b.n (width / 2 - x) → to ≡ min b.to (b.n - z)
    → Stands width k b (rows_between b from to)
stands width k b x y z from to ex ey ef ez et =
    let half : ℕ = width / 2 in
    let first : from ≡ max b.from (k - half) = ef ∙ rw (ey, less-min k half) in
    let last : to ≡ min b.to (b.n - (half - k)) = et ∙ rw (ez, ex, less-min half k, less-min b.n (half - k)) in
    record { band = refl; inside = rows_in half b.n k b.from b.to from to first last; whole = rows_all half b.n k b.from b.to from to first last }
  where
    rows_in : (half n k a e from to : ℕ) → from ≡ max a (k - half) → to ≡ min e (n - (half - k)) → (t : ℕ) → from ≤ t → t < to → (a ≤ t) × (t < e) × (k ≤ t + half) × (t + half - k < n)
    rows_in half n k a e from to f g t p q = (omega arith, omega arith, omega arith, omega arith)

    rows_all : (half n k a e from to : ℕ) → from ≡ max a (k - half) → to ≡ min e (n - (half - k)) → (t : ℕ) → t < n → a ≤ t → t < e → k ≤ t + half → t + half - k < n → (from ≤ t) × (t < to)
    rows_all half n k a e from to f g t h p q i o = (omega arith, omega arith)

-- their frames are all there
pub frames-there : (width k : ℕ) (b s : Block) → Stands width k b s → b.to ≤ b.n → s.from < s.to → (k ≤ s.from + width / 2) × (s.from + width / 2 - k + (s.to - s.from) ≤ b.n) × (s.to ≤ b.n)
frames-there width k b s q most some =
    let first = q.inside s.from (omega arith) some in
    let last = q.inside (s.to - 1) (omega arith) (omega arith) in
    (first.2, omega (arith, first.2, last.3), omega (arith, last.1))

-- ---- what tap k adds

module _ (x : Window) (k : ℕ) (kb : k < length x.taps) where
  abbrev half : ℕ
  half = length x.taps / 2

  own : (t : ℕ) → k ≤ t + half → W x.taps (t + half - k) t ≡ elem x.taps k
  own t a =
      let e : t + half - (t + half - k) ≡ k = omega arith in
      W-own x.taps t (t + half - k) (omega arith) (omega arith) ∙ ap (elem x.taps) e

  -- nothing where it stands at no frame, and nothing if it is zero
  idle-entry : (t j : ℕ) (y : Float) → (There half x.n k t → eq (elem x.taps k) nought ≡ true) → tap_entry x k t j y ≡ y
  unfolding tap_entry
  idle-entry t j y z = rw (at_none half x.n k t (term x.taps x.us t (t + j)) y (λ s. term-idle x.taps x.us x.ms t (t + half - k) (rw (own t s.0) (z s)) (t + j) y)) (either_way (ltb (t + j) x.n) y)

  idle-side : (t : ℕ) (y : Float) → (There half x.n k t → eq (elem x.taps k) nought ≡ true) → tap_side x k t y ≡ y
  unfolding tap_side
  idle-side t y z = at_none half x.n k t (right_term x.taps x.us x.ms t) y (λ s. right-idle x.taps x.us x.ms t (t + half - k) (rw (own t s.0) (z s)) y)

  module _ (nz : eq (elem x.taps k) nought ≡ false) (t : ℕ) (y : Float) (s : There half x.n k t) where
    in_entry : (j : ℕ) → tap_entry x k t j y ≡ inside x.n t j (plus_term (mul binary64 (elem x.taps k) (elem x.us (t + half - k))) (get_or x.taps (k + j) nought)) y
    unfolding tap_entry term
    in_entry j =
        let e : t + half - (t + half - k) ≡ k = omega arith in
        rw (at-frame half x.n k t (term x.taps x.us t (t + j)) y s, own t s.0, nz, W-tap x.taps t j (t + half - k) (omega arith), e)

    in_side : tap_side x k t y ≡ add binary64 y (mul binary64 (mul binary64 (elem x.taps k) (elem x.us (t + half - k))) (elem x.ms (t + half - k)))
    unfolding tap_side right_term
    in_side = at-frame half x.n k t (right_term x.taps x.us x.ms t) y s ∙ rw (own t s.0, nz)

-- ---- a block with tap k's terms added

module _ (b : Block) (taps : List Float) (u mean k : ℕ) (d : List Float) (kb : k < length taps) where
  abbrev X : Window
  X = window_in taps u mean b.n d

  pub tap-zero : eq (elem taps k) nought ≡ true → Moved b (tap_entry X k) (tap_side X k) d d
  tap-zero z = moved_none b (tap_entry X k) (tap_side X k) d (λ t j y h c a l. idle-entry X k kb t j y (λ s. z)) (λ t y h a l. idle-side X k kb t y (λ s. z))

  module _ (s : Block) (q : Stands (length taps) k b s) where
    out : (t : ℕ) → (s.from ≤ t → t < s.to → ⊥) → t < b.n → b.from ≤ t → t < b.to → There (length taps / 2) b.n k t → eq (elem taps k) nought ≡ true
    out t o h a l i = let w = q.whole t h a l i.0 i.1 in absurd (o w.0 w.1)

    pub tap-nowhere : s.to ≤ s.from → Moved b (tap_entry X k) (tap_side X k) d d
    tap-nowhere h = moved_none b (tap_entry X k) (tap_side X k) d
        (λ t j y l c a g. idle-entry X k kb t j y (out t (λ p q. omega arith) l a g)) (λ t y l a g. idle-side X k kb t y (out t (λ p q. omega arith) l a g))

    module _ (most : b.to ≤ b.n) (some : s.from < s.to) where
      abbrev F : ℕ
      F = s.from + length taps / 2 - k

      module _ (few : ℕ) (fb : few ≡ min (length taps - k) b.n) (rest : List Float) (rb : rest ≡ part k few taps) where
        pub tap-ready : length taps ≤ b.w → u + b.n ≤ b.rows → mean + b.n ≤ b.rows → Room b (length d) → (0 < length rest) × (mean + F + (s.to - s.from) ≤ s.rows) × Ready rest (u + F) s (length d)
        tap-ready narrow ub mb fit =
            let long : length rest ≡ few = rw rb (cut-length k few taps (omega (arith, kb))) in
            let all = frames-there (length taps) k b s q most some in
            subst (λ (z : Block). (0 < length rest) × (mean + F + (s.to - s.from) ≤ z.rows) × Ready rest (u + F) z (length d)) (sym q.band) (
              omega (arith, long, kb, all.2),
              omega (arith, all.1),
              record { some = some; narrow = omega (arith, long); few = omega (arith, long); pairs = omega (arith, all.1); fit = record { most = all.2; right-at = fit.right-at; room = fit.room } },
            )

        module _ (nz : eq (elem taps k) nought ≡ false) (t : ℕ) (y : Float) (a : s.from ≤ t) (c : t < s.to) where
          abbrev frame : ℕ
          frame = t + length taps / 2 - k

          there : There (length taps / 2) b.n k t
          there = let l = q.inside t a c in (l.2, l.3)

          head : elem rest 0 ≡ elem taps k
          head = rw rb (part-read taps k few 0 nan (λ z. omega (arith, there.1)) ∙ ap (elem taps) (add-zero k))

          read : (i : ℕ) → elem d (i + F + (t - s.from)) ≡ elem (part i b.n d) frame
          read i = let e : i + F + (t - s.from) ≡ i + frame = omega (arith, (frames-there (length taps) k b s q most some).0) in ap (elem d) e ∙ part_elem i b.n frame d there.1

          same-entry : (j : ℕ) → tap_column rest (u + F) (rows_between b s.from s.to) d t j y ≡ tap_entry X k t j y
          unfolding tap_column
          same-entry j = ⊎_elim
              (λ (l : b.n ≤ t + j). rw (le-ltb (t + j) b.n l) (sym (in_entry X k kb nz t y there j ∙ rw (le-ltb (t + j) b.n l))))
              (λ (l : t + j < b.n). let tail : get_or rest j nought ≡ get_or taps (k + j) nought = rw rb (part-read taps k few j nought (λ z. omega arith)) in rw (head, read u, tail) (sym (in_entry X k kb nz t y there j)))
              (le_or_lt b.n (t + j))

          same-side : side_of rest (u + F) (mean + F) (rows_between b s.from s.to) d t y ≡ tap_side X k t y
          unfolding side_of
          same-side = rw (head, read u, read mean) (sym (in_side X k kb nz t y there))

        pub tap-done : eq (elem taps k) nought ≡ false → (m : List Float) → Moved s (tap_column rest (u + F) s d) (side_of rest (u + F) (mean + F) s d) d m → Moved b (tap_entry X k) (tap_side X k) d m
        tap-done nz m p =
            moved-some b s.from s.to _ (tap_entry X k) _ (tap_side X k) d m (λ t a c. let l = q.inside t a c in (l.0, l.1))
            (λ t j y a c. same-entry nz t y a c j) (λ t y a c. same-side nz t y a c)
            (λ t j y h c f g o. idle-entry X k kb t j y (out t o h f g)) (λ t y h f g o. idle-side X k kb t y (out t o h f g))
            (subst (λ (z : Block). Moved z (tap_column rest (u + F) z d) (side_of rest (u + F) (mean + F) z d) d m) q.band p)

-- ---- the taps of a window from the last to tap k: at row t these are the frames below t + half + 1 - k

module _ (b : Block) (taps : List Float) (u mean : ℕ) (d : List Float) where
  abbrev Z : Window
  Z = window_in taps u mean b.n d

  abbrev below : ℕ → ℕ → ℕ
  below k t = min b.n (t + length taps / 2 + 1 - k)

  abbrev pub entries_to : ℕ → ℕ → ℕ → Float → Float
  entries_to k t j = inside b.n t j (over (term taps Z.us t (t + j)) (below k t))

  abbrev pub sides_to : ℕ → ℕ → Float → Float
  sides_to k t = over (right_term taps Z.us Z.ms t) (below k t)

  -- one more frame, if there is one
  frame-more : (g : ℕ → Float → Float) (k t : ℕ) (y : Float) → at_frame (length taps / 2) b.n k t g (over g (below (k + 1) t) y) ≡ over g (below k t) y
  frame-more g k t y = ⊎_elim
      (λ (a : k ≤ t + length taps / 2). ⊎_elim
      (λ (c : b.n ≤ t + length taps / 2 - k). let e : below (k + 1) t ≡ below k t = omega arith in rw (le-leb k (t + length taps / 2) a, le-ltb (t + length taps / 2 - k) b.n c, e))
      (λ (c : t + length taps / 2 - k < b.n).
      let e : below (k + 1) t ≡ t + length taps / 2 - k = omega arith in
      let f : below k t ≡ t + length taps / 2 - k + 1 = omega arith in
      at-frame (length taps / 2) b.n k t g _ (a, c) ∙ rw (e, f) (over-step g (t + length taps / 2 - k) y))
      (le_or_lt b.n (t + length taps / 2 - k)))
      (λ (a : t + length taps / 2 < k). let e : below (k + 1) t ≡ below k t = omega arith in rw (lt-leb k (t + length taps / 2) a, e))
      (le_or_lt k (t + length taps / 2))

  term-none : (t s f : ℕ) (y : Float) → eq (W taps f t) nought ≡ true → term taps Z.us t s f y ≡ y
  term-none t s f y o = term-idle taps Z.us Z.ms t f o s y

  right-none : (t f : ℕ) (y : Float) → eq (W taps f t) nought ≡ true → right_term taps Z.us Z.ms t f y ≡ y
  right-none t f y o = right-idle taps Z.us Z.ms t f o y

  pub taps-none : Moved b (entries_to (length taps)) (sides_to (length taps)) d d
  taps-none = moved_none b (entries_to (length taps)) (sides_to (length taps)) d
      (λ t j y h c a l. rw (frames-before taps t (term taps Z.us t (t + j)) (term-none t (t + j)) (below (length taps) t) y (omega arith)) (either_way (ltb (t + j) b.n) y))
      (λ t y h a l. frames-before taps t (right_term taps Z.us Z.ms t) (right-none t) (below (length taps) t) y (omega arith))

  module _ (ub : u + b.n ≤ b.rows) (mb : mean + b.n ≤ b.rows) (room : b.rows ≤ length d) where
    pub taps-next : (m m' : List Float) (k₁ k : ℕ) → k₁ ≡ k + 1 → Moved b (entries_to k₁) (sides_to k₁) d m → Moved b (tap_entry (window_in taps u mean b.n m) k) (tap_side (window_in taps u mean b.n m) k) m m'
        → Moved b (entries_to k) (sides_to k) d m'
    unfolding tap_entry tap_side
    taps-next m m' k₁ k e p q = moved_then b (entries_to k₁) (tap_entry Z k) (entries_to k) (sides_to k₁) (tap_side Z k) (sides_to k) d m m'
        (λ t j y h c a l. ⊎_elim
        (λ (o : b.n ≤ t + j). rw (le-ltb (t + j) b.n o))
        (λ (o : t + j < b.n). rw (lt-ltb (t + j) b.n o, e) (frame-more (term taps Z.us t (t + j)) k t y))
        (le_or_lt b.n (t + j)))
        (λ t y h a l. rw e (frame-more (right_term taps Z.us Z.ms t) k t y)) p
        (rw (part-kept b (entries_to k₁) (sides_to k₁) d m u b.n p (inl ub) (omega arith), part-kept b (entries_to k₁) (sides_to k₁) d m mean b.n p (inl mb) (omega arith)) at q)

  pub taps-all : (m : List Float) → Moved b (entries_to 0) (sides_to 0) d m → Moved b (window_entry Z) (window_side Z) d m
  unfolding window_entry window_side
  taps-all m = moved_same b (entries_to 0) (window_entry Z) (sides_to 0) (window_side Z) d m
      (λ t j y h c a l. rw (frames-behind taps t (term taps Z.us t (t + j)) (term-none t (t + j)) b.n (below 0 t) y (omega arith)))
      (λ t y h a l. sym (frames-behind taps t (right_term taps Z.us Z.ms t) (right-none t) b.n (below 0 t) y (omega arith)))
