-- The normal equations of n frames followed by k, where no window reaches across the cut but from frames whose inverse variances are zeros: they are those of each part alone.
use mathlib.Core.Path.{◌≡◌, refl, sym, ap, ◌∙◌}
use mathlib.Core.Bool.{Bool, true, false}
use mathlib.Core.List.{List, ◌++◌}
use mathlib.Core.Logic.{⊎_elim}
use Prim.Native.Nat.{ℕ, ◌+◌, ◌-◌, ◌*◌, ◌/◌, ◌<◌, ◌≤◌}
use native.Mathlib.Omega.{arith}
use borrow.Author.Tests.{lt-ltb, le-ltb}
use lib.Dec.{T, ltb}
use lib.ListN.{length, length-append}
use lib.Ieee.{Float, nan, binary64, mul, eq, fits}
use lib.Ieee.Bits.{of_bits-fits}
use lib.Ieee.Scale.{finite}
use Rattle.lists.specs.Totals.{total}
use Rattle.lists.specs.Build.{build, rows, over}
use Rattle.lists.proofs.Numbers.{le_or_lt}
use Rattle.lists.proofs.Builds.{build-at}
use Rattle.lists.proofs.Fills.{build-length}
use Rattle.lists.proofs.Flags.{either}
use Rattle.lists.proofs.Chosen.{at_first, at_second}
use Rattle.lists.proofs.Joins.{rows-own}
use Rattle.lists.proofs.Regions.{cut-length}
use Rattle.floats.specs.Numbers.{nought}
use Rattle.floats.specs.Signs.{Same, Zero}
use Rattle.floats.proofs.Signs.{mul-zero-left, mul-zero-right, nought-zero}
use Rattle.region.specs.Rows.{elem, entry}
use Rattle.region.proofs.Readings.{part_elem}
use Rattle.model.specs.Windows.{all_finite, width_of, left_width, window_start, window_of, band_width}
use Rattle.model.proofs.Windows.{width_in_band}
use Rattle.band.specs.Paper.{W, term, right_term, part_of, entry_sum, right_sum, entry_of, band_rows, right_side}
use Rattle.band.proofs.Terms.{W-further, reached-back, reached-on, finite_W}
use Rattle.band.proofs.Windows.{taps_in}
use Rattle.alone.proofs.Overs.{Alike, Does, Idle, all_do, all-idle, both_do, adding, adding_does, adding-idle}

-- ---- one window

-- frame f's term (W(f, t) u(f)) c(f) in a sum of row t, where W(f, t) is not zero and c(f) is not skipped
abbrev framed : List Float → List Float → ℕ → (Float → Bool) → (ℕ → Float) → ℕ → Float → Float
framed taps us t skip c f = adding (eq (W taps f t) nought) (skip (c f)) (mul binary64 (mul binary64 (W taps f t) (elem us f)) (c f))

framed_does : (taps us : List Float) (t : ℕ) (skip : Float → Bool) (c : ℕ → Float) (f : ℕ) → Does (framed taps us t skip c f) (framed taps us t skip c f)
framed_does taps us t skip c f = adding_does (eq (W taps f t) nought) (skip (c f)) (mul binary64 (mul binary64 (W taps f t) (elem us f)) (c f))

-- its taps, and its inverse variances at n frames and at k behind them, with zeros where it reaches across the cut
record Cut (taps us vs : List Float) (n k : ℕ) : Type 0 where
  long : length us ≡ n
  fine : (f t : ℕ) → T (finite (W taps f t))
  ends : (u : ℕ) → u < n → n < u + (length taps - length taps / 2) → Zero (elem us u)
  begins : (u : ℕ) → u < k → u < length taps / 2 → Zero (elem vs u)

module _ (taps us vs : List Float) (n k : ℕ) (cut : Cut taps us vs n k) (skip : Float → Bool) (c : ℕ → Float) (t : ℕ) where
  -- a term with a zero may be left out
  idle : (f : ℕ) (u : Float) → elem (us ++ vs) f ≡ u → T (finite (c f)) → (eq (W taps f t) nought ≡ false → skip (c f) ≡ false → Zero u) → Idle (framed taps (us ++ vs) t skip c f)
  idle f u e h z = rw e (adding-idle _ _ _ (λ a b. mul-zero-left binary64 (mul binary64 (W taps f t) u) (c f) (mul-zero-right binary64 (W taps f t) u (cut.fine f t) (z a b)) h))

  -- that of one of the n frames, where the window reaches across the cut
  idle-before : (f : ℕ) → f < n → T (finite (c f)) → (eq (W taps f t) nought ≡ false → skip (c f) ≡ false → n + length taps / 2 < f + length taps) → Idle (framed taps (us ++ vs) t skip c f)
  idle-before f l h r = idle f (elem us f) (at_first us vs n f nan cut.long l) h (λ a b. cut.ends f l (omega (arith, r a b)))

  -- those of the k frames, in a row before the cut
  idle-behind : t < n → ((f : ℕ) → f < k → T (finite (c (n + f)))) → Idle (over (λ f. framed taps (us ++ vs) t skip c (n + f)) k)
  idle-behind b fine = all-idle _ k (λ f l. idle (n + f) (elem vs f) (at_second us vs n f nan cut.long) (fine f l) (λ a _. cut.begins f l (omega (arith, reached-back taps t (n + f) a))))

  -- such a row has the terms of the n frames
  window-first : (c' : ℕ → Float) → t < n → ((f : ℕ) → f < n → c f ≡ c' f) → ((f : ℕ) → f < k → T (finite (c (n + f)))) → Does (over (framed taps (us ++ vs) t skip c) (n + k)) (over (framed taps us t skip c') n)
  window-first c' b same fine =
      both_do _ n k (over (framed taps us t skip c') n) (λ z. z) (all_do _ _ n (λ f l. rw (at_first us vs n f nan cut.long l, same f l) (framed_does taps us t skip c' f))) (idle-behind b fine)

  -- and none where their columns lie behind the cut
  window-across : t < n → ((f : ℕ) → skip (c f) ≡ false → n + length taps / 2 < f + length taps) → ((f : ℕ) → T (finite (c f))) → Idle (over (framed taps (us ++ vs) t skip c) (n + k))
  window-across b r fine = both_do _ n k (λ z. z) (λ z. z) (all-idle _ n (λ f l. idle-before f l (fine f) (λ _. r f))) (idle-behind b (λ f l. fine (n + f)))

-- a row behind the cut has those of the k frames
window-second : (taps us vs : List Float) (n k : ℕ) → Cut taps us vs n k → (skip : Float → Bool) (c c' : ℕ → Float) (t : ℕ) → ((f : ℕ) → f < k → c (n + f) ≡ c' f) → ((f : ℕ) → f < n → T (finite (c f)))
    → Does (over (framed taps (us ++ vs) (n + t) skip c) (n + k)) (over (framed taps vs t skip c') k)
window-second taps us vs n k cut skip c c' t same fine =
    both_do _ n k (λ z. z) (over (framed taps vs t skip c') k)
    (all-idle _ n (λ f l. idle-before taps us vs n k cut skip c (n + t) f l (fine f l) (λ a _. omega (arith, reached-on taps (n + t) f a))))
    (all_do _ _ k (λ f l. rw (W-further taps n f t, at_second us vs n f nan cut.long, same f l) (framed_does taps vs t skip c' f)))

-- ---- all windows

-- from +0 on
start : Alike nought nought
start = record { same = refl; held = of_bits-fits binary64 0; held' = of_bits-fits binary64 0 }

-- a sum of row t, as an entry and the right side are: window i's terms over n frames, for all windows
abbrev added : List ℕ → List Float → ℕ → List Float → ℕ → (Float → Bool) → (ℕ → ℕ → Float) → ℕ → Float → Float
added widths coefs n ivars t skip c i = over (framed (window_of widths coefs i) (part_of n ivars i) t skip (c i)) n

abbrev summed : List ℕ → List Float → ℕ → List Float → ℕ → (Float → Bool) → (ℕ → ℕ → Float) → Float
summed widths coefs n ivars t skip c = over (added widths coefs n ivars t skip c) (length widths) nought

module _ (widths : List ℕ) (coefs : List Float) (n : ℕ) (ivars : List Float) where
  -- it is a number of an f64
  summed-held : (t : ℕ) (skip : Float → Bool) (c : ℕ → ℕ → Float) → T (fits binary64 (summed widths coefs n ivars t skip c))
  summed-held t skip c =
      let g : ℕ → Float → Float = added widths coefs n ivars t skip c in
      (all_do g g (length widths) (λ i h. all_do _ _ n (λ f l. framed_does (window_of widths coefs i) (part_of n ivars i) t skip (c i) f)) nought nought start).held

  pub entry-held : (t j : ℕ) → T (fits binary64 (entry_of widths coefs n ivars t j))
  unfolding entry_of entry_sum term
  entry-held t j = either (λ y. T (fits binary64 y)) (ltb (t + j) n) _ nought (summed-held t (λ c. eq c nought) (λ i f. W (window_of widths coefs i) f (t + j))) (of_bits-fits binary64 0)

  pub right-held : (means : List Float) (t : ℕ) → T (fits binary64 (right_sum widths coefs n ivars means t))
  unfolding right_sum right_term
  right-held means t = summed-held t (λ c. false) (λ i. elem (part_of n means i))

  -- past the last frame an entry is nought
  pub entry_past : (t j : ℕ) → n ≤ t + j → Zero (entry_of widths coefs n ivars t j)
  unfolding entry_of
  entry_past t j h = rw (le-ltb (t + j) n h) nought-zero

  -- the numbers of the lists are these sums
  pub entry-at : (w t j : ℕ) → t < n → j < w → entry w (band_rows widths coefs n ivars w) t j ≡ entry_of widths coefs n ivars t j
  unfolding band_rows
  entry-at w t j h l =
      let r : ℕ → List Float = λ t. build (entry_of widths coefs n ivars t) w in
      part_elem (t * w) w j (rows r n) l ∙ ap (λ (row : List Float). elem row j) (rows-own r w n t h (λ i b. build-length (entry_of widths coefs n ivars i) w)) ∙ build-at (entry_of widths coefs n ivars t) w j nan l

  pub right-at : (means : List Float) (t : ℕ) → t < n → elem (right_side widths coefs n ivars means) t ≡ right_sum widths coefs n ivars means t
  unfolding right_side
  right-at means t h = build-at (right_sum widths coefs n ivars means) n t nan h

-- ---- n frames followed by k frames: window i's inverse variances are x i and then y i

module _ (widths : List ℕ) (coefs : List Float) (n k : ℕ) (x y : ℕ → List Float) (whole : length coefs ≡ total widths) (fine : all_finite coefs ≡ true)
    (long-x : (i : ℕ) → i < length widths → length (x i) ≡ n) (long-y : (i : ℕ) → i < length widths → length (y i) ≡ k)
    (ends : (i : ℕ) → i < length widths → (u : ℕ) → u < n → n < u + (width_of widths i - left_width (width_of widths i)) → Zero (elem (x i) u))
    (begins : (i : ℕ) → i < length widths → (u : ℕ) → u < k → u < left_width (width_of widths i) → Zero (elem (y i) u)) where
  abbrev m : ℕ
  m = length widths

  abbrev both : List Float
  both = rows (λ i. x i ++ y i) m

  abbrev taps : ℕ → List Float
  taps i = window_of widths coefs i

  cut_at : (i : ℕ) → i < m → Cut (taps i) (x i) (y i) n k
  cut_at i h =
      let e : length (taps i) ≡ width_of widths i =
      cut-length (window_start widths i) (width_of widths i) coefs (taps_in widths coefs (band_width widths) (record { taps = omega arith; narrow = λ i l. width_in_band widths i }) i h) in
      record { long = long-x i h; fine = λ f t. finite_W coefs (window_start widths i) (width_of widths i) f t fine; ends = rw e (ends i h); begins = rw e (begins i h) }

  joined : (p q : ℕ → List Float) → ((i : ℕ) → i < m → length (p i) ≡ n) → ((i : ℕ) → i < m → length (q i) ≡ k) → (i : ℕ) → i < m → part_of (n + k) (rows (λ i. p i ++ q i) m) i ≡ p i ++ q i
  joined p q a b i h = rows-own (λ i. p i ++ q i) (n + k) m i h (λ i l. simp length-append (omega (arith, a i l, b i l)))

  module _ (skip : Float → Bool) (c c' : ℕ → ℕ → Float) (t : ℕ) where
    summed-first : t < n → ((i f : ℕ) → i < m → f < n → c i f ≡ c' i f) → ((i f : ℕ) → i < m → f < k → T (finite (c i (n + f))))
        → Alike (summed widths coefs (n + k) both t skip c) (summed widths coefs n (rows x m) t skip c')
    summed-first b same known =
        all_do (added widths coefs (n + k) both t skip c) (added widths coefs n (rows x m) t skip c') m
        (λ i h. rw (joined x y long-x long-y i h, rows-own x n m i h long-x) (window-first (taps i) (x i) (y i) n k (cut_at i h) skip (c i) t (c' i) b (λ f. same i f h) (λ f. known i f h)))
        nought nought start

    summed_second : ((i f : ℕ) → i < m → f < k → c i (n + f) ≡ c' i f) → ((i f : ℕ) → i < m → f < n → T (finite (c i f)))
        → Alike (summed widths coefs (n + k) both (n + t) skip c) (summed widths coefs k (rows y m) t skip c')
    summed_second same known =
        all_do (added widths coefs (n + k) both (n + t) skip c) (added widths coefs k (rows y m) t skip c') m
        (λ i h. rw (joined x y long-x long-y i h, rows-own y k m i h long-y) (window-second (taps i) (x i) (y i) n k (cut_at i h) skip (c i) (c' i) t (λ f. same i f h) (λ f. known i f h)))
        nought nought start

  -- an entry of a row before the cut, in a column behind it
  across : (t s : ℕ) → t < n → n ≤ s → Zero (entry_sum widths coefs (n + k) both t s)
  unfolding entry_sum term
  across t s b l =
      (all-idle (added widths coefs (n + k) both t (λ c. eq c nought) (λ i f. W (taps i) f s)) m
      (λ i h. rw (joined x y long-x long-y i h) (window-across (taps i) (x i) (y i) n k (cut_at i h) (λ c. eq c nought) (λ f. W (taps i) f s) t b (λ f a. omega (arith, reached-on (taps i) s f a)) (λ f. (cut_at i h).fine f s)))
      nought nought start).same ∙ nought-zero

  pub entry_first : (t j : ℕ) → t < n → Same (entry_of widths coefs (n + k) both t j) (entry_of widths coefs n (rows x (length widths)) t j)
  unfolding entry_of entry_sum term
  entry_first t j b = ⊎_elim
      (λ (l : n ≤ t + j). either Zero (ltb (t + j) (n + k)) _ nought (across t (t + j) b l) nought-zero ∙ sym (entry_past widths coefs n (rows x m) t j l))
      (λ (l : t + j < n). rw (lt-ltb (t + j) (n + k) (omega arith), lt-ltb (t + j) n l) (summed-first (λ c. eq c nought) (λ i f. W (taps i) f (t + j)) (λ i f. W (taps i) f (t + j)) t b (λ i f h l. refl) (λ i f h l. (cut_at i h).fine (n + f) (t + j))).same)
      (le_or_lt n (t + j))

  pub entry-second : (t j : ℕ) → t < k → Same (entry_of widths coefs (n + k) both (n + t) j) (entry_of widths coefs k (rows y (length widths)) t j)
  unfolding entry_of entry_sum term
  entry-second t j b =
      let e : n + t + j ≡ n + (t + j) = omega arith in
      ⊎_elim
      (λ (l : k ≤ t + j). rw (le-ltb (n + t + j) (n + k) (omega arith), le-ltb (t + j) k l))
      (λ (l : t + j < k). rw (lt-ltb (n + t + j) (n + k) (omega arith), lt-ltb (t + j) k l)
      (summed_second (λ c. eq c nought) (λ i f. W (taps i) f (n + t + j)) (λ i f. W (taps i) f (t + j)) t (λ i f h l. rw e (W-further (taps i) n f (t + j))) (λ i f h l. (cut_at i h).fine f (n + t + j))).same)
      (le_or_lt k (t + j))

  -- the means are p i and then q i
  module _ (p q : ℕ → List Float) (long-p : (i : ℕ) → i < length widths → length (p i) ≡ n) (long-q : (i : ℕ) → i < length widths → length (q i) ≡ k)
      (fine-p : (i u : ℕ) → i < length widths → u < n → T (finite (elem (p i) u))) (fine-q : (i u : ℕ) → i < length widths → u < k → T (finite (elem (q i) u))) where
    abbrev means : List Float
    means = rows (λ i. p i ++ q i) m

    mean-first : (i f : ℕ) → i < m → f < n → elem (part_of (n + k) means i) f ≡ elem (p i) f
    mean-first i f h l = ap (λ (us : List Float). elem us f) (joined p q long-p long-q i h) ∙ at_first (p i) (q i) n f nan (long-p i h) l

    mean-second : (i f : ℕ) → i < m → elem (part_of (n + k) means i) (n + f) ≡ elem (q i) f
    mean-second i f h = ap (λ (us : List Float). elem us (n + f)) (joined p q long-p long-q i h) ∙ at_second (p i) (q i) n f nan (long-p i h)

    pub right-first : (t : ℕ) → t < n → Same (right_sum widths coefs (n + k) both (rows (λ i. p i ++ q i) (length widths)) t) (right_sum widths coefs n (rows x (length widths)) (rows p (length widths)) t)
    unfolding right_sum right_term
    right-first t b =
        (summed-first (λ c. false) (λ i. elem (part_of (n + k) means i)) (λ i. elem (part_of n (rows p m) i)) t b
        (λ i f h l. mean-first i f h l ∙ ap (λ (us : List Float). elem us f) (sym (rows-own p n m i h long-p))) (λ i f h l. rw (mean-second i f h) (fine-q i f h l))).same

    pub right-second : (t : ℕ) → t < k → Same (right_sum widths coefs (n + k) both (rows (λ i. p i ++ q i) (length widths)) (n + t)) (right_sum widths coefs k (rows y (length widths)) (rows q (length widths)) t)
    unfolding right_sum right_term
    right-second t b =
        (summed_second (λ c. false) (λ i. elem (part_of (n + k) means i)) (λ i. elem (part_of k (rows q m) i)) t
        (λ i f h l. mean-second i f h ∙ ap (λ (us : List Float). elem us f) (sym (rows-own q k m i h long-q))) (λ i f h l. rw (mean-first i f h l) (fine-p i f h l))).same
