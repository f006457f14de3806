-- Laws of the terms of one tap: a pass along the right side, one along a column, and the columns one after the other.
use mathlib.Core.Path.{◌≡◌, refl, sym, ap, subst, ◌∙◌}
use mathlib.Core.Bool.{true, false}
use mathlib.Core.List.{List}
use mathlib.Core.Logic.{inl, ⊎_elim, ◌≢◌}
use Prim.Native.Nat.{ℕ, ◌+◌, ◌-◌, ◌*◌, ◌<◌, ◌≤◌, min, max}
use native.Mathlib.Nat.{add-mul}
use native.Mathlib.Omega.{arith}
use borrow.Author.Tests.{lt-ltb, le-ltb}
use lib.Dec.{ltb}
use lib.ListN.{length, get_or, set, get_or-eq_default}
use lib.Ieee.{Float, nan, binary64, add, mul, eq}
use Rattle.lists.specs.Build.{over}
use Rattle.lists.proofs.Numbers.{le_or_lt, by_place}
use Rattle.lists.proofs.Rows.{row_in}
use Rattle.floats.specs.Numbers.{nought}
use Rattle.region.specs.Rows.{elem}
use Rattle.band.specs.Inner.Passes.{entry_at, within, Room, Moved, still, Ready, tap_column, side_of, in_columns, NextTap}
use Rattle.band.specs.declared.passes.Block.{Block}
use Rattle.band.proofs.Terms.{either_way, same_at, eq-nought}
use Rattle.band.proofs.Runs.{Summed, summed-run, scaled}
use Rattle.band.proofs.Moves.{by_span, within_on, within-off, within-idle, within-next, moved_none, moved_then, moved_same}

-- rows and entries have places of their own
one-row : (w t s i j : ℕ) → i < w → j < w → t * w + i ≡ s * w + j → t ≡ s
one-row w t s i j h l e = ⊎_elim
    (λ (g : t ≤ s). ⊎_elim (λ (q : s ≤ t). omega arith) (λ (q : t < s). absurd (omega (arith, row_in w t s i q h))) (le_or_lt s t))
    (λ (g : s < t). absurd (omega (arith, row_in w s t j g l)))
    (le_or_lt t s)

-- ---- x t is added to a number of each row t: to the right side, or to column j of the rows before row `to`

module _ (b : Block) (d : List Float) (fit : Room b (length d)) (x : ℕ → Float) (m : List Float) where
  entry_in : (t j : ℕ) → t < b.n → j < b.w → entry_at b t j < b.right
  entry_in t j h l = omega (arith, fit.right-at, row_in b.w t b.n j h l)

  pub side-moved : (g : ℕ → Float → Float) → ((t : ℕ) (y : Float) → g t y ≡ add binary64 y (x t)) → Summed (λ t. b.right + t) b.from x d b.to m → Moved b (λ t j y. y) g d m
  side-moved g e k = record {
    long = k.long;
    others = λ i h. k.off i (λ t a l z. ⊎_elim (λ (o : i < b.rows). omega (arith, fit.right-at)) (λ (o : b.right + b.n ≤ i). omega arith) h);
    entries = λ t j h c. k.off (entry_at b t j) (λ s a l z. omega (arith, entry_in t j h c)) ∙ sym (within-idle b.from b.to t (λ y. y) _ (λ a l. refl));
    sides = λ t h. by_span b.from b.to t _
        (λ a l. k.on t a l ∙ sym (within_on b.from b.to t (g t) _ a l ∙ e t _))
        (λ o. k.off (b.right + t) (λ s a l z. let q : t ≡ s = omega arith in o (omega arith) (omega arith)) ∙ sym (within-off b.from b.to t (g t) _ o));
  }

  module _ (j to : ℕ) (wide : j < b.w) (end : to ≤ b.to) (f : ℕ → ℕ → Float → Float) where
    one_place : (t s i : ℕ) → i < b.w → entry_at b t i ≡ entry_at b s j → (t ≡ s) × (i ≡ j)
    one_place t s i l e =
        let z : t ≡ s = one-row b.w t s i j l wide (omega arith) in
        (z, omega (arith, ap (λ (r : ℕ). r * b.w) z))

    pub column-moved : ((t i : ℕ) (y : Float) → i ≢ j → f t i y ≡ y) → ((t : ℕ) (y : Float) → b.from ≤ t → t < to → f t j y ≡ add binary64 y (x t)) → ((t : ℕ) (y : Float) → to ≤ t → t < b.to → f t j y ≡ y)
        → Summed (λ t. entry_at b t j) b.from x d to m → Moved b f still d m
    column-moved other on past k = record {
      long = k.long;
      others = λ i h. k.off i (λ t a l z. ⊎_elim (λ (o : i < b.rows). omega arith) (λ (o : b.right + b.n ≤ i). omega (arith, entry_in t j (omega arith) wide)) h);
      entries = λ t i h c. by_place j (λ (i : ℕ). elem m (entry_at b t i) ≡ within b.from b.to t (f t i) (elem d (entry_at b t i))) i
          (λ ne. k.off (entry_at b t i) (λ s a l z. ne (one_place t s i c z).1) ∙ sym (within-idle b.from b.to t (f t i) _ (λ a l. other t i _ ne)))
          (by_span b.from to t _
          (λ a l. k.on t a l ∙ sym (within_on b.from b.to t (f t j) _ a (omega arith) ∙ on t _ a l))
          (λ o. k.off (entry_at b t j) (λ s a l z. let q = (one_place t s j wide z).0 in o (omega arith) (omega arith))
          ∙ sym (within-idle b.from b.to t (f t j) _ (λ a l. past t _ (⊎_elim (λ (q : to ≤ t). q) (λ (q : t < to). absurd (o a q)) (le_or_lt to t)) l))));
      sides = λ t h. k.off (b.right + t) (λ s a l z. omega (arith, entry_in s j (omega arith) wide)) ∙ sym (within-idle b.from b.to t (still t) _ (λ a l. refl));
    }

-- ---- the columns of a tap

module _ (taps : List Float) (u : ℕ) (b : Block) where
  -- the place of column j in the first row
  abbrev pub column_at : ℕ → ℕ
  column_at j = b.rows + (b.from * b.w + j)

  -- it and all those below lie before the right side, and so would one row
  pub column_in : (size j t : ℕ) → Ready taps u b size → j < length taps → b.from + t < b.to → column_at j + t * b.w < b.right
  column_in size j t k h l = omega (arith, add-mul b.from t b.w, row_in b.w (b.from + t) b.n j (omega (arith, k.fit.most)) (omega (arith, k.narrow)), k.fit.right-at)

  module _ (d : List Float) (k : Ready taps u b (length d)) where
    abbrev C : ℕ → ℕ → Float → Float
    C = tap_column taps u b d

    pub column-done : (j : ℕ) → j < length taps → eq (elem taps j) nought ≡ false → (to : ℕ) → to ≡ max b.from (min b.to (b.n - j)) → (m : List Float)
        → m ≡ over (scaled (column_at j) b.w u (elem taps 0) (elem taps j)) (to - b.from) d → Moved b (in_columns j (j + 1) C) still d m
    unfolding tap_column
    column-done j jb nz to tb m e =
        let w : ℕ = b.w in
        let x : ℕ → Float = λ t. mul binary64 (mul binary64 (elem taps 0) (elem d (u + (t - b.from)))) (elem taps j) in
        let jw : j < w = omega (arith, k.narrow) in
        let end : to ≤ b.to = omega (arith, k.some) in
        let all : b.from + (to - b.from) ≡ to = omega arith in
        rw e
        (column-moved b d k.fit x _ j to jw end (in_columns j (j + 1) C)
        (λ t i y ne. within-off j (j + 1) i (C t i) y (λ a l. ne (omega arith)))
        (λ t y a l. within_on j (j + 1) j (C t j) y (omega arith) (omega arith) ∙ rw (lt-ltb (t + j) b.n (omega arith), same_at taps j nought nan jb, nz))
        (λ t y l g. within_on j (j + 1) j (C t j) y (omega arith) (omega arith) ∙ rw (le-ltb (t + j) b.n (omega arith)))
        (rw all at (summed-run (λ t. entry_at b t j) b.from x d (λ s t l z. let q : t * w + j ≡ s * w + j = omega arith in omega (arith, one-row w t s j j jw jw q)) (scaled (column_at j) w u (elem taps 0) (elem taps j)) (to - b.from)
        (λ t l. omega (arith, k.fit.most, k.fit.right-at, k.fit.room, row_in w (b.from + t) b.n j (omega (arith, end, k.fit.most)) jw))
        (λ t m l s.
        let place : column_at j + t * w ≡ entry_at b (b.from + t) j = omega (arith, add-mul b.from t w) in
        let same : elem m (u + t) ≡ elem d (u + (b.from + t - b.from)) = s.off (u + t) (λ i a c z. omega (arith, k.pairs, end)) ∙ ap (λ (i : ℕ). elem d (u + i)) (omega arith) in
        rw (place, same)))))

    -- ---- one column after the other

    zero-column : (t i : ℕ) (y : Float) → eq (get_or taps i nought) nought ≡ true → C t i y ≡ y
    unfolding tap_column
    zero-column t i y z = rw z (either_way (ltb (t + i) b.n) y)

    zero_columns : (a e : ℕ) → ((c : ℕ) → c < e → a ≤ c → eq (elem taps c) nought ≡ true) → e ≤ length taps → Moved b (in_columns a e C) still d d
    zero_columns a e z l = moved_none b (in_columns a e C) still d
        (λ t i y h c f g. within-idle a e i (C t i) y (λ o q. zero-column t i y (rw (same_at taps i nought nan (omega arith)) (z i q o)))) (λ t y h f g. refl)

    -- the inverse variances are as they were
    seen : (f : ℕ → ℕ → Float → Float) (g : ℕ → Float → Float) (m : List Float) (t : ℕ) → Moved b f g d m → b.from ≤ t → t < b.to → elem m (u + (t - b.from)) ≡ elem d (u + (t - b.from))
    seen f g m t q a l = q.others (u + (t - b.from)) (inl (omega (arith, k.pairs)))

    columns_then : (m m' : List Float) (a e z : ℕ) → a ≤ e → e ≤ z → Moved b (in_columns a e C) still d m → Moved b (in_columns e z (tap_column taps u b m)) still m m' → Moved b (in_columns a z C) still d m'
    unfolding tap_column
    columns_then m m' a e z l g p q = moved_then b (in_columns a e C) (in_columns e z (tap_column taps u b m)) (in_columns a z C) still still still d m m'
        (λ t i y h c f o. rw (seen (in_columns a e C) still m t p f o) (within-next a e z i (C t i) y l g)) (λ t y h f o. refl) p q

    pub columns_none : (j : ℕ) → NextTap taps 0 j → Moved b (in_columns 0 j C) still d d
    columns_none j n = zero_columns 0 j n.zeros n.inside

    pub columns_all : (m : List Float) (j : ℕ) → length taps ≤ j → Moved b (in_columns 0 j C) still d m → Moved b C still d m
    columns_all m j h = moved_same b (in_columns 0 j C) C still still d m
        (λ t i y a c f g. ⊎_elim
        (λ (q : j ≤ i). let past : length taps ≤ i = omega arith in within-off 0 j i (C t i) y (λ o r. omega arith) ∙ sym (zero-column t i y (rw (get_or-eq_default taps nought past) eq-nought)))
        (λ (q : i < j). within_on 0 j i (C t i) y (omega arith) q)
        (le_or_lt j i))
        (λ t y a f g. refl)

  -- columns j to e, and those up to the next that has a tap
  pub columns_next : (d m m' : List Float) → Ready taps u b (length d) → (j e i : ℕ) → j ≤ e → NextTap taps e i → Moved b (in_columns 0 j (tap_column taps u b d)) still d m
      → Moved b (in_columns j e (tap_column taps u b m)) still m m' → Moved b (in_columns 0 i (tap_column taps u b d)) still d m'
  columns_next d m m' k j e i l n p q =
      let long : length m' ≡ length d = q.long ∙ p.long in
      columns_then d k m' m' 0 e i (omega arith) n.behind (columns_then d k m m' 0 j e (omega arith) l p q) (zero_columns m' (subst (Ready taps u b) (sym long) k) e i n.zeros n.inside)

  -- two columns in one pass, and all between them have a zero tap
  pub pair-done : (d m : List Float) → Ready taps u b (length d) → (j i : ℕ) → NextTap taps (j + 1) i → i < length taps → b.to + i ≤ b.n → eq (elem taps j) nought ≡ false
      → m ≡ over (scaled (column_at j + (i - j)) b.w u (elem taps 0) (elem taps i)) (b.to - b.from) (over (scaled (column_at j) b.w u (elem taps 0) (elem taps j)) (b.to - b.from) d)
      → Moved b (in_columns j (i + 1) (tap_column taps u b d)) still d m
  pair-done d m k j i n h l nz e =
      let m₁ : List Float = over (scaled (column_at j) b.w u (elem taps 0) (elem taps j)) (b.to - b.from) d in
      let place : column_at j + (i - j) ≡ column_at i = omega (arith, n.behind) in
      let first = column-done d k j (omega (arith, n.behind)) nz b.to (omega (arith, n.behind, k.some)) m₁ refl in
      let k₁ = subst (Ready taps u b) (sym first.long) k in
      columns_then d k m₁ m j i (i + 1) (omega (arith, n.behind)) (omega arith)
      (columns_then d k m₁ m₁ j (j + 1) i (omega arith) n.behind first (zero_columns m₁ k₁ (j + 1) i n.zeros n.inside))
      (column-done m₁ k₁ i h (n.tap h) b.to (omega (arith, k.some)) m (rw place at e))

-- ---- the right side, and then the columns

-- (c u) y is added to the t-th number from a place on; u and y are the t-th from other places on
abbrev pub multiplied : ℕ → ℕ → ℕ → Float → ℕ → List Float → List Float
multiplied at u y c t m = set m (at + t) (add binary64 (elem m (at + t)) (mul binary64 (mul binary64 c (elem m (u + t))) (elem m (y + t))))

module _ (taps : List Float) (u mean : ℕ) (b : Block) (d : List Float) (k : Ready taps u b (length d)) (means : mean + (b.to - b.from) ≤ b.rows) where
  abbrev S : ℕ → Float → Float
  S = side_of taps u mean b d

  pub side-done : (m : List Float) → m ≡ over (multiplied (b.right + b.from) u mean (elem taps 0)) (b.to - b.from) d → Moved b (λ t j y. y) S d m
  unfolding side_of
  side-done m e =
      let x : ℕ → Float = λ t. mul binary64 (mul binary64 (elem taps 0) (elem d (u + (t - b.from)))) (elem d (mean + (t - b.from))) in
      let all : b.from + (b.to - b.from) ≡ b.to = omega (arith, k.some) in
      rw e (side-moved b d k.fit x _ S (λ t y. refl)
      (rw all at (summed-run (λ t. b.right + t) b.from x d (λ s t l z. omega arith) (multiplied (b.right + b.from) u mean (elem taps 0)) (b.to - b.from)
      (λ t l. omega (arith, k.fit.most, k.fit.room))
      (λ t m l s.
      let place : b.right + b.from + t ≡ b.right + (b.from + t) = omega arith in
      let old : (i : ℕ) → i + (b.to - b.from) ≤ b.rows → elem m (i + t) ≡ elem d (i + (b.from + t - b.from)) = λ i q. s.off (i + t) (λ r a c z. omega (arith, k.fit.right-at)) ∙ ap (λ (r : ℕ). elem d (i + r)) (omega arith) in
      rw (place, old u k.pairs, old mean means)))))

  pub terms_done : (m m' : List Float) → Moved b (λ t j y. y) S d m → Moved b (tap_column taps u b m) still m m' → Moved b (tap_column taps u b d) S d m'
  unfolding tap_column
  terms_done m m' p q = moved_then b (λ t j y. y) (tap_column taps u b m) (tap_column taps u b d) S still S d m m' (λ t j y h c a l. rw (seen taps u b d k (λ t j y. y) S m t p a l)) (λ t y h a l. refl) p q
