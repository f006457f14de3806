-- Laws of a block from zeroed rows on, window after window, and of all blocks of a region.
use mathlib.Core.Path.{◌≡◌, refl, sym, ap, ◌∙◌}
use mathlib.Core.List.{List, [], ◌∷◌}
use mathlib.Core.Logic.{◌⊎◌, inl, inr, ⊎_elim}
use Prim.Native.Nat.{ℕ, zero, suc, ◌+◌, ◌-◌, ◌*◌, ◌<◌, ◌≤◌}
use native.Mathlib.Nat.{zero-add, zero-mul, suc-mul, mul-le-mul_right}
use native.Mathlib.Numerals.{add-one}
use native.Mathlib.Omega.{arith}
use borrow.Rule.Slice.PartMut.{put_mid}
use borrow.Author.Tests.{lt-ltb, le-ltb}
use lib.Dec.{ltb}
use lib.ListN.{length, get_or, set, take, drop, replicate, length-set, length-drop, length-replicate, get_or-replicate, take-append-drop}
use lib.Seq.{sets, length-sets, get_or-take, get_or-drop, get_or-set_same, length-take-le}
use lib.Ieee.{Float, nan}
use Rattle.lists.specs.Totals.{total}
use Rattle.lists.specs.Build.{build, rows, over}
use Rattle.lists.specs.Parts.{part}
use Rattle.lists.proofs.Numbers.{le_or_lt}
use Rattle.lists.proofs.Rows.{row_fits, row_in}
use Rattle.lists.proofs.Builds.{build_is}
use Rattle.lists.proofs.Regions.{returned, cut-length}
use Rattle.floats.specs.Numbers.{nought}
use Rattle.region.specs.Rows.{elem}
use Rattle.region.specs.Region.{ivars_at, rows_at, right_at, factors_at, values_at, size_of, places_of, region_in, flat}
use Rattle.region.specs.declared.Layout.{Layout}
use Rattle.region.specs.declared.Places.{Places}
use Rattle.region.proofs.Readings.{part_elem, part-part, read_under, read-beyond}
use Rattle.region.proofs.Flats.{flat-read}
use Rattle.band.specs.Paper.{part_of, entry_sum, right_sum, entry_of, band_rows, right_side}
use Rattle.band.specs.Promise.{rowed_in}
use Rattle.band.specs.Inner.Passes.{Room, entry_at, within, Moved, Cleared, window_in, window_entry, window_side, Set, set_in, window_at, windows_entry, windows_side, whole_entry, whole_side}
use Rattle.band.specs.declared.passes.Block.{Block}
use Rattle.band.proofs.Terms.{either_way}
use Rattle.band.proofs.Moves.{within_on, within-off, by_span, moved_none, moved_then, moved-next, part-kept}

-- ---- a block's rows are cleared

-- numbers that are stored from place i on
sets-at : (xs l : List Float) (i j : ℕ) → j < length xs → i + length xs ≤ length l → elem (sets l i xs) (i + j) ≡ elem xs j
sets-at [] l i j h b = absurd (omega arith)
sets-at (x ∷ xs) l i zero h b =
    let e : i + 0 ≡ i = omega arith in
    ap (elem (sets (set l i x) (suc i) xs)) e ∙ read_under xs (set l i x) (suc i) i (omega arith) ∙ get_or-set_same l i x nan (omega arith)
sets-at (x ∷ xs) l i (suc j) h b =
    let e : i + suc j ≡ suc i + j = omega arith in
    ap (elem (sets (set l i x) (suc i) xs)) e ∙ sets-at xs (set l i x) (suc i) j (omega arith) (rw length-set (omega arith))

-- the places from a to e get one number
filled_as : (l : List Float) (a e i : ℕ) (v : Float) → a ≤ e → e ≤ length l → elem (sets l a (replicate (e - a) v)) i ≡ within a e i (λ y. v) (elem l i)
filled_as l a e i v h g = ⊎_elim
    (λ (b : a ≤ i). ⊎_elim
    (λ (c : e ≤ i). read-beyond (replicate (e - a) v) l a i (rw length-replicate (omega arith)) ∙ sym (within-off a e i (λ y. v) (elem l i) (λ p q. omega arith)))
    (λ (c : i < e).
    let z : i ≡ a + (i - a) = omega arith in
    ap (elem (sets l a (replicate (e - a) v))) z ∙ sets-at (replicate (e - a) v) l a (i - a) (rw length-replicate (omega arith)) (rw length-replicate (omega arith)) ∙ get_or-replicate (e - a) (i - a) v nan (omega arith)
    ∙ sym (within_on a e i (λ y. v) (elem l i) b c))
    (le_or_lt e i))
    (λ (b : i < a). read_under (replicate (e - a) v) l a i b ∙ sym (within-off a e i (λ y. v) (elem l i) (λ p q. omega arith)))
    (le_or_lt a i)

-- they were lent, and are back filled
pub cleared : (a e : ℕ) (l x : List Float) → a ≤ e → e ≤ length l → x ≡ replicate (length (part a (e - a) l)) nought → Cleared a e l (put_mid a (e - a) l x)
cleared a e l x h g k =
    let long : length (part a (e - a) l) ≡ e - a = cut-length a (e - a) l (omega arith) in
    let z : x ≡ replicate (e - a) nought = rw long at k in
    let back : put_mid a (e - a) l x ≡ sets l a (replicate (e - a) nought) = returned a e l x h g (ap length z ∙ length-replicate (e - a) nought) ∙ ap (sets l a) z in
    rw back (record { long = length-sets l a (replicate (e - a) nought); each = λ i. filled_as l a e i nought h g })

-- a place is one of some numbers where a row is one of some rows
within-place : (a e t A E i : ℕ) (h : Float → Float) (y : Float) → (a ≤ t → t < e → (A ≤ i) × (i < E)) → (A ≤ i → i < E → (a ≤ t) × (t < e)) → within A E i h y ≡ within a e t h y
within-place a e t A E i h y to back = by_span a e t _
    (λ p q. within_on A E i h y (to p q).0 (to p q).1 ∙ sym (within_on a e t h y p q))
    (λ o. within-off A E i h y (λ p q. o (back p q).0 (back p q).1) ∙ sym (within-off a e t h y o))

-- a block's rows lie before the right side
pub rows_end : (b : Block) (size : ℕ) → Room b size → b.from ≤ b.to → (b.from * b.w ≤ b.to * b.w) × (b.rows + b.to * b.w ≤ b.right)
rows_end b size fit ordered = (mul-le-mul_right b.w ordered, omega (arith, fit.right-at, mul-le-mul_right b.w fit.most))

module _ (b : Block) (d m m' : List Float) (fit : Room b (length d)) (ordered : b.from ≤ b.to) where
  pub rows-cleared : Cleared (b.rows + b.from * b.w) (b.rows + b.to * b.w) d m → Cleared (b.right + b.from) (b.right + b.to) m m' → Moved b (λ t j y. nought) (λ t y. nought) d m'
  rows-cleared k l =
      let zero : Float → Float = λ y. nought in
      let end : b.rows + b.to * b.w ≤ b.right = (rows_end b (length d) fit ordered).1 in
      let A : ℕ = b.rows + b.from * b.w in
      let E : ℕ = b.rows + b.to * b.w in
      let S : ℕ = b.right + b.from in
      let T : ℕ = b.right + b.to in
      record {
        long = l.long ∙ k.long;
        others = λ i h. l.each i ∙ within-off S T i zero (elem m i) (λ p q. ⊎_elim (λ (o : i < b.rows). omega arith) (λ (o : b.right + b.n ≤ i). omega (arith, fit.most)) h)
            ∙ k.each i ∙ within-off A E i zero (elem d i) (λ p q. ⊎_elim (λ (o : i < b.rows). omega arith) (λ (o : b.right + b.n ≤ i). omega arith) h);
        entries = λ t j h c.
            let w : ℕ = b.w in
            l.each (entry_at b t j) ∙ within-off S T (entry_at b t j) zero (elem m (entry_at b t j)) (λ p q. omega (arith, fit.right-at, row_in w t b.n j h c)) ∙ k.each (entry_at b t j)
            ∙ within-place b.from b.to t A E (entry_at b t j) zero (elem d (entry_at b t j)) (λ p q. (omega (arith, mul-le-mul_right w p), omega (arith, row_in w t b.to j q c)))
            (λ p q. (⊎_elim (λ (o : b.from ≤ t). o) (λ (o : t < b.from). absurd (omega (arith, row_in w t b.from j o c))) (le_or_lt b.from t), ⊎_elim (λ (o : b.to ≤ t). absurd (omega (arith, mul-le-mul_right w o))) (λ (o : t < b.to). o) (le_or_lt b.to t)));
        sides = λ t h. l.each (b.right + t) ∙ within-place b.from b.to t S T (b.right + t) zero (elem m (b.right + t)) (λ p q. (omega arith, omega arith)) (λ p q. (omega arith, omega arith))
            ∙ ap (within b.from b.to t zero) (k.each (b.right + t) ∙ within-off A E (b.right + t) zero (elem d (b.right + t)) (λ p q. omega arith));
      }

-- ---- all windows

-- window i's part of what lies from a on, k numbers in all
window-part : (l : List Float) (a k n i : ℕ) → i * n + n ≤ k → part (a + i * n) n l ≡ part_of n (part a k l) i
window-part l a k n i h = sym (part-part (i * n) n a k l h)

module _ (widths : List ℕ) (coefs : List Float) (ivars : ℕ) (b : Block) (d : List Float) (each : ivars ≡ length widths * b.n) (pairs : ivars + ivars ≤ b.rows) (room : b.rows ≤ length d) where
  abbrev S : Set
  S = set_in widths coefs ivars b.n d

  -- a pass leaves the pairs
  kept : (f : ℕ → ℕ → Float → Float) (g : ℕ → Float → Float) (m : List Float) → Moved b f g d m → set_in widths coefs ivars b.n m ≡ S
  kept f g m k = rw (part-kept b f g d m ivars ivars k (inl pairs) (omega arith), part-kept b f g d m 0 ivars k (inl (omega arith)) (omega arith))

  pub windows-none : Moved b (windows_entry S 0) (windows_side S 0) d d
  unfolding over windows_entry windows_side
  windows-none = moved_none b (windows_entry S 0) (windows_side S 0) d (λ t j y h c a l. either_way (ltb (t + j) b.n) y) (λ t y h a l. refl)

  pub windows-next : (m m' taps : List Float) (i o k f : ℕ) → i < length widths → o ≡ total (take i widths) → k ≡ get_or widths i 0 → f ≡ i * b.n → taps ≡ part o k coefs → Moved b (windows_entry S i) (windows_side S i) d m
      → Moved b (window_entry (window_in taps (ivars + f) f b.n m)) (window_side (window_in taps (ivars + f) f b.n m)) m m' → Moved b (windows_entry S (i + 1)) (windows_side S (i + 1)) d m'
  unfolding over window_entry window_side windows_entry windows_side
  windows-next m m' taps i o k f h eo ek e z p q =
      let n : ℕ = b.n in
      let fit : i * n + n ≤ ivars = omega (arith, row_fits n i (length widths) h, each) in
      let old : (u k : ℕ) → u + k ≤ b.rows → part u k m ≡ part u k d = λ u k l. part-kept b (windows_entry S i) (windows_side S i) d m u k p (inl l) (omega arith) in
      let us : part (ivars + f) n m ≡ part_of n S.us i = old (ivars + f) n (omega arith) ∙ rw e (window-part d ivars ivars n i fit) in
      let ms : part f n m ≡ part_of n S.ms i = old f n (omega arith) ∙ ap (λ (o : ℕ). part o n d) (e ∙ sym (zero-add (i * n))) ∙ window-part d 0 ivars n i fit in
      moved_then b (windows_entry S i) (window_entry (window_at S i)) (windows_entry S (i + 1)) (windows_side S i) (window_side (window_at S i)) (windows_side S (i + 1)) d m m'
      (λ t j y g c a l. ⊎_elim (λ (o : n ≤ t + j). rw (le-ltb (t + j) n o)) (λ (o : t + j < n). rw (lt-ltb (t + j) n o, add-one)) (le_or_lt n (t + j)))
      (λ t y g a l. rw add-one) p (rw (us, ms, z, eo, ek) at q)

  -- from zeroed rows on
  pub block_done : (z m : List Float) → Moved b (λ t j y. nought) (λ t y. nought) d z
      → Moved b (windows_entry (set_in widths coefs ivars b.n z) (length widths)) (windows_side (set_in widths coefs ivars b.n z) (length widths)) z m → Moved b (whole_entry S) (whole_side S) d m
  block_done z m p q =
      moved_then b (λ t j y. nought) (windows_entry S (length widths)) (whole_entry S) (λ t y. nought) (windows_side S (length widths)) (whole_side S) d z m (λ t j y h c a l. refl) (λ t y h a l. refl) p (rw (kept (λ t j y. nought) (λ t y. nought) z p) at q)

-- ---- all blocks of a region

-- a block of rows of a region
abbrev pub block_of : Places → ℕ → ℕ → ℕ → ℕ → Block
block_of p n w from to = record { rows = p.rows; right = p.right; n = n; w = w; from = from; to = to }

-- where the lists of a region of `size` numbers lie
pub record Lies (p : Places) (windows n w size : ℕ) : Type 0 where
  pub each : p.ivars ≡ windows * n
  pub pairs : p.ivars + p.ivars ≤ p.rows
  pub right-at : p.rows + n * w ≤ p.right
  pub room : p.right + n ≤ size

pub lies : (g : Layout) (p : Places) (windows n w size : ℕ) → p ≡ places_of g → windows ≡ g.windows → n ≡ g.n → w ≡ g.w → size ≡ size_of g → Lies p windows n w size
lies g p windows n w size a b c d e = rw (a, b, c, d, e) (record { each = refl; pairs = omega arith; right-at = omega arith; room = omega arith })

module _ (widths : List ℕ) (coefs : List Float) (p : Places) (n w : ℕ) (d : List Float) where
  abbrev R : Set
  R = set_in widths coefs p.ivars n d

  pub blocks_next : (m m' : List Float) (from to : ℕ) → Lies p (length widths) n w (length d) → from ≤ to → Moved (block_of p n w 0 from) (whole_entry R) (whole_side R) d m
      → Moved (block_of p n w from to) (whole_entry (set_in widths coefs p.ivars n m)) (whole_side (set_in widths coefs p.ivars n m)) m m' → Moved (block_of p n w 0 to) (whole_entry R) (whole_side R) d m'
  blocks_next m m' from to q l a k =
      moved-next (block_of p n w from to) (whole_entry R) (whole_side R) d m m' l a
      (rw (kept widths coefs p.ivars (block_of p n w 0 from) d q.each q.pairs (omega (arith, q.right-at, q.room)) (whole_entry R) (whole_side R) m a) at k)

-- a band by its entries
grid_is : (F : ℕ → ℕ → Float) (w n : ℕ) (l : List Float) → length l ≡ n * w → ((t j : ℕ) → t < n → j < w → elem l (t * w + j) ≡ F t j) → l ≡ rows (λ t. build (F t) w) n
unfolding rows
grid_is F w zero [] e h = refl
grid_is F w zero (x ∷ l) e h = absurd (omega (arith, zero-mul w))
grid_is F w (suc n) l e h =
    let k : length l ≡ n * w + w = e ∙ suc-mul n w in
    let front : take (n * w) l ≡ rows (λ t. build (F t) w) n =
    grid_is F w n (take (n * w) l) (length-take-le (n * w) l (omega arith)) (λ t j a b. get_or-take (n * w) l (t * w + j) nan (row_in w t n j a b) ∙ h t j (omega arith) b) in
    let back : drop (n * w) l ≡ build (F n) w =
    build_is (F n) w (drop (n * w) l) nan (simp length-drop (omega arith)) (λ j b. get_or-drop (n * w) l j nan ∙ h n j (omega arith) b) in
    sym (take-append-drop (n * w) l) ∙ rw (front, back)

-- its rows are all done, and its other lists are as they were
module _ (widths : List ℕ) (coefs : List Float) (g : Layout) (d m : List Float) (size : length d ≡ size_of g) where
  abbrev D : Set
  D = set_in widths coefs (ivars_at g) g.n d

  rows-done : Moved (block_of (places_of g) g.n g.w 0 g.n) (whole_entry D) (whole_side D) d m → m ≡ flat (rowed_in widths coefs g (region_in g d))
  unfolding band_rows right_side entry_of entry_sum right_sum windows_entry windows_side
  rows-done k =
      let n : ℕ = g.n in
      let w : ℕ = g.w in
      let B : Block = block_of (places_of g) n w 0 n in
      let long : length m ≡ size_of g = k.long ∙ size in
      let same : (u c : ℕ) → (u + c ≤ rows_at g) ⊎ (factors_at g ≤ u) → u + c ≤ size_of g → part u c m ≡ part u c d = λ u c h b. part-kept B (whole_entry D) (whole_side D) d m u c k h (omega (arith, size)) in
      let matrix : part (rows_at g) (n * w) m ≡ band_rows widths coefs n D.us w =
      grid_is (entry_of widths coefs n D.us) w n (part (rows_at g) (n * w) m) (cut-length (rows_at g) (n * w) m (omega arith))
      (λ t j a b. sym (part_elem (rows_at g) (n * w) (t * w + j) m (row_in w t n j a b)) ∙ k.entries t j a b ∙ within_on 0 n t (whole_entry D t j) _ (omega arith) a) in
      let side : part (right_at g) n m ≡ right_side widths coefs n D.us D.ms =
      build_is (right_sum widths coefs n D.us D.ms) n (part (right_at g) n m) nan (cut-length (right_at g) n m (omega arith))
      (λ t a. sym (part_elem (right_at g) n t m a) ∙ k.sides t a ∙ within_on 0 n t (whole_side D t) _ (omega arith) a) in
      sym (flat-read g m long)
      ∙ rw (same 0 (ivars_at g) (inl (omega arith)) (omega arith), same (ivars_at g) (ivars_at g) (inl (omega arith)) (omega arith), matrix, side, same (factors_at g) (n * w) (inr (omega arith)) (omega arith), same (values_at g) n (inr (omega arith)) (omega arith))

  pub region-done : (p : Places) (n w : ℕ) → p ≡ places_of g → n ≡ g.n → w ≡ g.w → Moved (block_of p n w 0 n) (whole_entry (set_in widths coefs p.ivars n d)) (whole_side (set_in widths coefs p.ivars n d)) d m
      → m ≡ flat (rowed_in widths coefs g (region_in g d))
  region-done p n w a b c k = rows-done (rw (a, b, c) at k)
