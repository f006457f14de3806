-- Runs closed up and solved together have each run's own values, up to the sign of zeros.
use mathlib.Core.Path.{◌≡◌, refl, sym, ap, ◌∙◌}
use mathlib.Core.Bool.{true}
use mathlib.Core.List.{List, [], ◌∷◌, ◌++◌, map}
use Prim.Native.Nat.{ℕ, suc, ◌+◌, ◌-◌, ◌<◌}
use native.Mathlib.Omega.{arith}
use lib.Dec.{T}
use lib.ListN.{length, get_or, length-append, length-map, get_or-map}
use lib.Seq.{ext_get_or}
use lib.Ieee.{Float, nan}
use lib.Ieee.Scale.{finite}
use Rattle.lists.specs.Totals.{total}
use Rattle.lists.specs.Build.{rows}
use Rattle.lists.proofs.Chosen.{of_both}
use Rattle.lists.proofs.Joins.{rows_same}
use Rattle.floats.specs.Signs.{plain, Same, Zero}
use Rattle.region.specs.Rows.{elem}
use Rattle.model.specs.Windows.{all_finite, width_of, left_width, band_width}
use Rattle.band.specs.Paper.{band_rows, right_side}
use Rattle.band.proofs.Lengths.{side-length}
use Rattle.solve.specs.Solve.{solution}
use Rattle.solve.proofs.Factors.{solution-length}
use Rattle.runs.specs.declared.Run.{Run}
use Rattle.runs.specs.Alone.{of_run}
use Rattle.runs.proofs.Masks.{closed, in_turn}
use Rattle.alone.specs.Premise.{Sound}
use Rattle.alone.proofs.Cuts.{entry_first, entry-second, right-first, right-second, entry-at, right-at, entry-held, right-held, entry_past}
use Rattle.alone.proofs.Solving.{Sane, sane, Joined, joined-sane, joined-first, joined-second}

-- numbers that are the same as those of two lists
same-both : (s a b : List Float) (n k : ℕ) → length s ≡ n + k → length a ≡ n → length b ≡ k → ((t : ℕ) → t < n → Same (elem s t) (elem a t)) → ((t : ℕ) → t < k → Same (elem s (n + t)) (elem b t))
    → map plain s ≡ map plain a ++ map plain b
same-both s a b n k ls la lb f g =
    ext_get_or nan (map plain s) (map plain a ++ map plain b) (simp (length-map, length-append) (omega arith))
    (λ i h. get_or-map plain s i nan ∙ of_both (λ u x. plain (elem s u) ≡ x) (map plain a) (map plain b) n k nan (length-map a plain ∙ la)
    (λ u l. f u l ∙ sym (get_or-map plain a u nan)) (λ u l. g u l ∙ sym (get_or-map plain b u nan)) i (omega (arith, length-map s plain)))

same_none : (s : List Float) → length s ≡ 0 → map plain s ≡ []
same_none [] e = refl
same_none (x ∷ s) e = absurd (omega arith)

-- ---- frames in a row

-- n frames of a component: window i's inverse variances are x i, zeros where the window reaches back before the first frame, and its means p i, which are finite
pub record Frames (widths : List ℕ) (n : ℕ) (x p : ℕ → List Float) : Type 0 where
  pub long : (i : ℕ) → i < length widths → length (x i) ≡ n
  pub begins : (i : ℕ) → i < length widths → (u : ℕ) → u < n → u < left_width (width_of widths i) → Zero (elem (x i) u)
  pub long_means : (i : ℕ) → i < length widths → length (p i) ≡ n
  pub fine_means : (i u : ℕ) → i < length widths → u < n → T (finite (elem (p i) u))

-- and where it reaches on behind the last
abbrev pub Ends : List ℕ → ℕ → (ℕ → List Float) → Type 0
Ends widths n x = (i : ℕ) → i < length widths → (u : ℕ) → u < n → n < u + (width_of widths i - left_width (width_of widths i)) → Zero (elem (x i) u)

module _ (widths : List ℕ) (coefs : List Float) where
  -- their equations, and the values that solve them
  abbrev pub matrix_of : ℕ → (ℕ → List Float) → List Float
  matrix_of n x = band_rows widths coefs n (rows x (length widths)) (band_width widths)

  abbrev pub side_of : ℕ → (ℕ → List Float) → (ℕ → List Float) → List Float
  side_of n x p = right_side widths coefs n (rows x (length widths)) (rows p (length widths))

  abbrev pub values_of : ℕ → (ℕ → List Float) → (ℕ → List Float) → List Float
  values_of n x p = solution (band_width widths) (matrix_of n x) (side_of n x p)

  side-long : (n : ℕ) (x p : ℕ → List Float) → length (side_of n x p) ≡ n
  side-long n x p = side-length widths coefs n (rows x (length widths)) (rows p (length widths)) (band_width widths)

  pub values-long : (n : ℕ) (x p : ℕ → List Float) → length (values_of n x p) ≡ n
  values-long n x p = solution-length (band_width widths) (matrix_of n x) (side_of n x p) ∙ side-long n x p

  pub values_same : (n n' : ℕ) (x x' p p' : ℕ → List Float) → n ≡ n' → ((i : ℕ) → x i ≡ x' i) → ((i : ℕ) → p i ≡ p' i) → values_of n x p ≡ values_of n' x' p'
  values_same n n' x x' p p' e f g = rw (e, rows_same x x' (length widths) (λ i h. f i), rows_same p p' (length widths) (λ i h. g i))

  -- no frames
  none-frames : Frames widths 0 (λ i. []) (λ i. [])
  none-frames = record { long = λ i h. refl; begins = λ i h u l. absurd (omega arith); long_means = λ i h. refl; fine_means = λ i u h l. absurd (omega arith) }

  none-sane : (x p : ℕ → List Float) → Sane (band_width widths) (matrix_of 0 x) (side_of 0 x p)
  none-sane x p =
      let z : (t : ℕ) → t < length (side_of 0 x p) → ⊥ = λ t h. omega (arith, side-long 0 x p) in
      record { factors = λ t j h l. absurd (z t h); divisors = λ t h. absurd (z t h); forwards = λ t h. absurd (z t h); values = λ t h. absurd (z t h) }

  -- n frames and k behind them
  module _ (whole : length coefs ≡ total widths) (fine : all_finite coefs ≡ true) (n k : ℕ) (x p y q : ℕ → List Float) (f : Frames widths n x p) (ends : Ends widths n x) (g : Frames widths k y q) where
    abbrev w : ℕ
    w = band_width widths

    abbrev xy : ℕ → List Float
    xy i = x i ++ y i

    abbrev pq : ℕ → List Float
    pq i = p i ++ q i

    both-frames : Frames widths (n + k) xy pq
    both-frames = record {
      long = λ i h. simp length-append (omega (arith, f.long i h, g.long i h));
      begins = λ i h. of_both (λ u v. u < left_width (width_of widths i) → Zero v) (x i) (y i) n k nan (f.long i h) (f.begins i h) (λ u l b. g.begins i h u l (omega arith));
      long_means = λ i h. simp length-append (omega (arith, f.long_means i h, g.long_means i h));
      fine_means = λ i u h. of_both (λ u v. T (finite v)) (p i) (q i) n k nan (f.long_means i h) (λ u. f.fine_means i u h) (λ u. g.fine_means i u h) u;
    }

    joined : Joined w n k (matrix_of (n + k) xy) (side_of (n + k) xy pq) (matrix_of n x) (side_of n x p) (matrix_of k y) (side_of k y q)
    joined =
        let both : List Float = rows xy (length widths) in
        let means : List Float = rows pq (length widths) in
        let xs : List Float = rows x (length widths) in
        let ys : List Float = rows y (length widths) in
        record {
          all = side-long (n + k) xy pq;
          fewer = side-long n x p;
          others = side-long k y q;
          first = λ t j h l. ap plain (entry-at widths coefs (n + k) both w t j (omega arith) l)
              ∙ entry_first widths coefs n k x y whole fine f.long g.long ends g.begins t j h ∙ sym (ap plain (entry-at widths coefs n xs w t j h l));
          second = λ t j h l. ap plain (entry-at widths coefs (n + k) both w (n + t) j (omega arith) l)
              ∙ entry-second widths coefs n k x y whole fine f.long g.long ends g.begins t j h ∙ sym (ap plain (entry-at widths coefs k ys w t j h l));
          right_first = λ t h. ap plain (right-at widths coefs (n + k) both means t (omega arith))
              ∙ right-first widths coefs n k x y whole fine f.long g.long ends g.begins p q f.long_means g.long_means f.fine_means g.fine_means t h
              ∙ sym (ap plain (right-at widths coefs n xs (rows p (length widths)) t h));
          right_second = λ t h. ap plain (right-at widths coefs (n + k) both means (n + t) (omega arith))
              ∙ right-second widths coefs n k x y whole fine f.long g.long ends g.begins p q f.long_means g.long_means f.fine_means g.fine_means t h
              ∙ sym (ap plain (right-at widths coefs k ys (rows q (length widths)) t h));
          apart = λ t j h l b. rw (entry-at widths coefs n xs w t j h l) (entry_past widths coefs n xs t j b);
          held = λ t j h l. rw (entry-at widths coefs (n + k) both w t j h l) (entry-held widths coefs (n + k) both t j);
          held_right = λ t h. rw (right-at widths coefs (n + k) both means t h) (right-held widths coefs (n + k) both means t);
        }

    module _ (sound : Sound w (matrix_of n x) (side_of n x p)) (others : Sane w (matrix_of k y) (side_of k y q)) where
      some : 0 < w
      some = omega arith

      alone : Sane w (matrix_of n x) (side_of n x p)
      alone = sane w (matrix_of n x) (side_of n x p) some (λ t j h l b. joined.apart t j (omega (arith, side-long n x p)) l (omega (arith, side-long n x p))) sound

      both-sane : Sane w (matrix_of (n + k) xy) (side_of (n + k) xy pq)
      both-sane = joined-sane some joined alone others

      both_values : map plain (values_of (n + k) xy pq) ≡ map plain (values_of n x p) ++ map plain (values_of k y q)
      both_values = same-both (values_of (n + k) xy pq) (values_of n x p) (values_of k y q) n k (values-long (n + k) xy pq) (values-long n x p) (values-long k y q) (joined-first some joined alone others) (joined-second some joined alone others)

-- ---- the runs of a component: window i's inverse variances of all frames are x i, and its means p i

-- how many frames they have
abbrev pub frames_of : List Run → ℕ
frames_of rs = total (map (λ r. r.frames) rs)

module _ (widths : List ℕ) (coefs : List Float) (x p : ℕ → List Float) where
  -- a run by itself
  abbrev pub own_values : Run → List Float
  own_values r = values_of widths coefs r.frames (λ i. of_run r (x i)) (λ i. of_run r (p i))

  pub record Good (r : Run) : Type 0 where
    pub frames : Frames widths r.frames (λ i. of_run r (x i)) (λ i. of_run r (p i))
    pub ends : Ends widths r.frames (λ i. of_run r (x i))
    pub sound : Sound (band_width widths) (matrix_of widths coefs r.frames (λ i. of_run r (x i))) (side_of widths coefs r.frames (λ i. of_run r (x i)) (λ i. of_run r (p i)))

  -- all of them closed up: their values are each run's own
  pub record Together (rs : List Run) : Type 0 where
    pub frames : Frames widths (frames_of rs) (λ i. closed rs (x i)) (λ i. closed rs (p i))
    pub sane : Sane (band_width widths) (matrix_of widths coefs (frames_of rs) (λ i. closed rs (x i))) (side_of widths coefs (frames_of rs) (λ i. closed rs (x i)) (λ i. closed rs (p i)))
    pub values : map plain (values_of widths coefs (frames_of rs) (λ i. closed rs (x i)) (λ i. closed rs (p i))) ≡ in_turn (λ r. map plain (own_values r)) rs

  pub together : length coefs ≡ total widths → all_finite coefs ≡ true → (rs : List Run) → ((k : ℕ) → k < length rs → Good (get_or rs k (record { first = 0; frames = 0 }))) → Together rs
  unfolding closed in_turn total
  together whole fine [] good = record {
    frames = none-frames widths coefs;
    sane = none-sane widths coefs (λ i. []) (λ i. []);
    values = same_none (values_of widths coefs 0 (λ i. []) (λ i. [])) (values-long widths coefs 0 (λ i. []) (λ i. []));
  }
  together whole fine (r ∷ rs) good =
      let g : Good r = good 0 (omega arith) in
      let t : Together rs = together whole fine rs (λ k h. good (suc k) (omega arith)) in
      record {
        frames = both-frames widths coefs whole fine r.frames (frames_of rs) _ _ _ _ g.frames g.ends t.frames;
        sane = both-sane widths coefs whole fine r.frames (frames_of rs) _ _ _ _ g.frames g.ends t.frames g.sound t.sane;
        values = both_values widths coefs whole fine r.frames (frames_of rs) _ _ _ _ g.frames g.ends t.frames g.sound t.sane ∙ ap (λ (l : List Float). map plain (own_values r) ++ l) t.values;
      }
