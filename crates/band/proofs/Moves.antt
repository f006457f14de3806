-- Laws of what passes do to a block's rows and right side.
use mathlib.Core.Path.{◌≡◌, refl, sym, ap, ◌∙◌}
use mathlib.Core.List.{List}
use mathlib.Core.Logic.{◌⊎◌, inl, inr, ⊎_elim}
use Prim.Native.Nat.{ℕ, ◌+◌, ◌<◌, ◌≤◌}
use native.Mathlib.Omega.{arith}
use borrow.Author.Tests.{lt-ltb, le-ltb, le-leb, lt-leb}
use lib.ListN.{length}
use lib.Seq.{ext_get_or}
use lib.Ieee.{Float, nan}
use Rattle.lists.specs.Parts.{part}
use Rattle.lists.proofs.Numbers.{le_or_lt}
use Rattle.lists.proofs.Regions.{cut-length}
use Rattle.region.proofs.Readings.{part_elem}
use Rattle.band.specs.Inner.Passes.{rows_between, within, Moved, still}
use Rattle.band.specs.declared.passes.Block.{Block}

-- ---- numbers from a to e

-- such a number, or another
pub by_span : (a e t : ℕ) (P : Type 0) → (a ≤ t → t < e → P) → ((a ≤ t → t < e → ⊥) → P) → P
by_span a e t P on off = ⊎_elim
    (λ (l : a ≤ t). ⊎_elim (λ (g : e ≤ t). off (λ x y. omega arith)) (λ (g : t < e). on l g) (le_or_lt e t))
    (λ (l : t < a). off (λ x y. omega arith))
    (le_or_lt a t)

module _ (a e t : ℕ) where
  pub within_on : (h : Float → Float) (y : Float) → a ≤ t → t < e → within a e t h y ≡ h y
  within_on h y l g = rw (le-leb a t l, lt-ltb t e g)

  pub within-off : (h : Float → Float) (y : Float) → (a ≤ t → t < e → ⊥) → within a e t h y ≡ y
  within-off h y o = ⊎_elim
      (λ (l : a ≤ t). ⊎_elim (λ (g : e ≤ t). rw (le-leb a t l, le-ltb t e g)) (λ (g : t < e). absurd (o l g)) (le_or_lt e t))
      (λ (l : t < a). rw (lt-leb a t l))
      (le_or_lt a t)

  pub within-idle : (h : Float → Float) (y : Float) → (a ≤ t → t < e → h y ≡ y) → within a e t h y ≡ y
  within-idle h y i = by_span a e t _ (λ l g. within_on h y l g ∙ i l g) (within-off h y)

  within-then : (h k m : Float → Float) (y : Float) → (a ≤ t → t < e → k (h y) ≡ m y) → within a e t k (within a e t h y) ≡ within a e t m y
  within-then h k m y i = by_span a e t _
      (λ l g. rw (le-leb a t l, lt-ltb t e g) (i l g))
      (λ o. ap (within a e t k) (within-off h y o) ∙ within-off k y o ∙ sym (within-off m y o))

-- the numbers from a to b, then those from b to e
pub within-next : (a b e t : ℕ) (h : Float → Float) (y : Float) → a ≤ b → b ≤ e → within b e t h (within a b t h y) ≡ within a e t h y
within-next a b e t h y l g = by_span b e t _
    (λ c i. within_on b e t h _ c i ∙ ap h (within-off a b t h y (λ p q. omega arith)) ∙ sym (within_on a e t h y (omega arith) i))
    (λ o. within-off b e t h _ o ∙ by_span a b t _
    (λ p q. within_on a b t h y p q ∙ sym (within_on a e t h y p (omega arith)))
    (λ q. within-off a b t h y q ∙ sym (within-off a e t h y (λ p i. ⊎_elim (λ (z : b ≤ t). o z i) (λ (z : t < b). q p z) (le_or_lt b t)))))

-- ---- what passes do to a block

module _ (b : Block) where
  -- what holds of every entry that a block's rows have, and of every number of their right side
  abbrev pub Entries : (ℕ → ℕ → Float → Type 0) → Type 0
  Entries P = (t j : ℕ) (y : Float) → t < b.n → j < b.w → b.from ≤ t → t < b.to → P t j y

  abbrev pub Sides : (ℕ → Float → Type 0) → Type 0
  Sides P = (t : ℕ) (y : Float) → t < b.n → b.from ≤ t → t < b.to → P t y

  pub moved_none : (f : ℕ → ℕ → Float → Float) (g : ℕ → Float → Float) (d : List Float) → Entries (λ t j y. f t j y ≡ y) → Sides (λ t y. g t y ≡ y) → Moved b f g d d
  moved_none f g d p q = record {
    long = refl;
    others = λ i h. refl;
    entries = λ t j h l. sym (within-idle b.from b.to t (f t j) _ (p t j _ h l));
    sides = λ t h. sym (within-idle b.from b.to t (g t) _ (q t _ h));
  }

  -- one pass after the other
  pub moved_then : (f f' f'' : ℕ → ℕ → Float → Float) (g g' g'' : ℕ → Float → Float) (d m m' : List Float) → Entries (λ t j y. f' t j (f t j y) ≡ f'' t j y) → Sides (λ t y. g' t (g t y) ≡ g'' t y)
      → Moved b f g d m → Moved b f' g' m m' → Moved b f'' g'' d m'
  moved_then f f' f'' g g' g'' d m m' p q k l = record {
    long = l.long ∙ k.long;
    others = λ i h. l.others i h ∙ k.others i h;
    entries = λ t j h c. l.entries t j h c ∙ ap (within b.from b.to t (f' t j)) (k.entries t j h c) ∙ within-then b.from b.to t (f t j) (f' t j) (f'' t j) _ (p t j _ h c);
    sides = λ t h. l.sides t h ∙ ap (within b.from b.to t (g' t)) (k.sides t h) ∙ within-then b.from b.to t (g t) (g' t) (g'' t) _ (q t _ h);
  }

  pub moved_same : (f f' : ℕ → ℕ → Float → Float) (g g' : ℕ → Float → Float) (d m : List Float) → Entries (λ t j y. f t j y ≡ f' t j y) → Sides (λ t y. g t y ≡ g' t y) → Moved b f g d m → Moved b f' g' d m
  moved_same f f' g g' d m p q k = moved_then f (λ t j y. y) f' g still g' d m m p q k (moved_none (λ t j y. y) still m (λ t j y h l c e. refl) (λ t y h c e. refl))

  -- the rows before those of the block, then the block's
  pub moved-next : (f : ℕ → ℕ → Float → Float) (g : ℕ → Float → Float) (d m m' : List Float) → b.from ≤ b.to → Moved (rows_between b 0 b.from) f g d m → Moved b f g m m' → Moved (rows_between b 0 b.to) f g d m'
  moved-next f g d m m' e k l = record {
    long = l.long ∙ k.long;
    others = λ i h. l.others i h ∙ k.others i h;
    entries = λ t j h c. l.entries t j h c ∙ ap (within b.from b.to t (f t j)) (k.entries t j h c) ∙ within-next 0 b.from b.to t (f t j) _ (omega arith) e;
    sides = λ t h. l.sides t h ∙ ap (within b.from b.to t (g t)) (k.sides t h) ∙ within-next 0 b.from b.to t (g t) _ (omega arith) e;
  }

  -- some of a block's rows, where nothing is to be done to the others
  pub moved-some : (a e : ℕ) (f f' : ℕ → ℕ → Float → Float) (g g' : ℕ → Float → Float) (d m : List Float) → ((t : ℕ) → a ≤ t → t < e → (b.from ≤ t) × (t < b.to))
      → ((t j : ℕ) (y : Float) → a ≤ t → t < e → f t j y ≡ f' t j y) → ((t : ℕ) (y : Float) → a ≤ t → t < e → g t y ≡ g' t y)
      → Entries (λ t j y. (a ≤ t → t < e → ⊥) → f' t j y ≡ y) → Sides (λ t y. (a ≤ t → t < e → ⊥) → g' t y ≡ y) → Moved (rows_between b a e) f g d m → Moved b f' g' d m
  moved-some a e f f' g g' d m i p q p' q' k = record {
    long = k.long;
    others = k.others;
    entries = λ t j h c. k.entries t j h c ∙ wider t (f t j) (f' t j) _ (p t j _) (p' t j _ h c);
    sides = λ t h. k.sides t h ∙ wider t (g t) (g' t) _ (q t _) (q' t _ h);
  }
    where
      wider : (t : ℕ) (h k : Float → Float) (y : Float) → (a ≤ t → t < e → h y ≡ k y) → (b.from ≤ t → t < b.to → (a ≤ t → t < e → ⊥) → k y ≡ y) → within a e t h y ≡ within b.from b.to t k y
      wider t h k y on off = by_span a e t _
          (λ l c. within_on a e t h y l c ∙ on l c ∙ sym (within_on b.from b.to t k y (i t l c).0 (i t l c).1))
          (λ o. within-off a e t h y o ∙ sym (within-idle b.from b.to t k y (λ l c. off l c o)))

  -- a part before the rows, or behind the right side
  pub part-kept : (f : ℕ → ℕ → Float → Float) (g : ℕ → Float → Float) (d m : List Float) (u k : ℕ) → Moved b f g d m → (u + k ≤ b.rows) ⊎ (b.right + b.n ≤ u) → u + k ≤ length d → part u k m ≡ part u k d
  part-kept f g d m u k q h l =
      let a : length (part u k m) ≡ k = cut-length u k m (omega (arith, q.long)) in
      ext_get_or nan (part u k m) (part u k d) (a ∙ sym (cut-length u k d l))
      (λ i e. let c : i < k = omega arith in
      sym (part_elem u k i m c) ∙ q.others (u + i) (⊎_elim (λ o. inl (omega arith)) (λ o. inr (omega arith)) h) ∙ part_elem u k i d c)
