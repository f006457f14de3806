-- A state's pairs stand behind those of the states before it, in each window's part of a region.
use mathlib.Core.Path.{◌≡◌, refl, ap, ◌∙◌}
use mathlib.Core.List.{List, ◌++◌}
use mathlib.Core.Logic.{⊎_elim}
use Prim.Native.Nat.{ℕ, zero, suc, ◌+◌, ◌*◌, ◌<◌, ◌≤◌}
use native.Mathlib.Nat.{suc-mul, zero-mul}
use native.Mathlib.Numerals.{add-one}
use native.Mathlib.Omega.{arith}
use lib.ListN.{length, drop, get_or, replicate, length-replicate}
use lib.Seq.{sets, length-sets, take-add, drop-drop}
use lib.Ieee.{Float, nan}
use Rattle.lists.specs.Parts.{part}
use Rattle.lists.specs.Build.{rows}
use Rattle.lists.proofs.Numbers.{le_or_lt}
use Rattle.lists.proofs.Rows.{row_fits}
use Rattle.lists.proofs.Regions.{stored_at, stored-behind, stored-before, dropped_before}
use Rattle.model.specs.Pair.{ivar_of}
use Rattle.voicing.specs.Inner.States.{shut_ends, put_pair, ends_of, put_pairs}
use Rattle.voicing.specs.declared.closing.Plan.{Plan}
use Rattle.voicing.specs.declared.closing.Span.{Span}
use Rattle.voicing.proofs.Runs.{ends-length}

-- parts that follow each other, n numbers each
pub parts-rows : (f : ℕ → List Float) (n o : ℕ) (m : List Float) (w : ℕ) → ((i : ℕ) → i < w → part (o + i * n) n m ≡ f i) → part o (w * n) m ≡ rows f w
unfolding rows
parts-rows f n o m zero h = rw (zero-mul n)
parts-rows f n o m (suc w) h = rw (suc-mul w n, take-add (w * n) n (drop o m), drop-drop (w * n) o m, parts-rows f n o m w (λ i l. h i (omega arith)), h w (omega arith))

module _ (records : List Float) (p : Plan) (mean : ℕ) (widths : List ℕ) (t : Span) (l : ℕ) where
  -- window i's means and inverse variances of the state
  abbrev pub means : ℕ → List Float
  means i = replicate t.d (get_or records (mean + i * p.v + l) nan)

  abbrev pub inverses : ℕ → List Float
  inverses i = shut_ends (ends_of widths t i) (ivar_of (get_or records (mean + i * p.v + p.half + l) nan))

  means_long : (i : ℕ) → length (means i) ≡ t.d
  means_long i = length-replicate t.d _

  inverses-long : (i : ℕ) → length (inverses i) ≡ t.d
  inverses-long i = ends-length (ends_of widths t i) _

  abbrev put : ℕ → List Float → List Float
  put i m = put_pairs records p mean widths t l i m

  -- one window more
  pub put_next : (i : ℕ) (m : List Float) {from place : ℕ} → from ≡ mean + i * p.v → place ≡ i * p.n + t.k
      → put_pair (ends_of widths t i) place (p.ivars + place) (get_or records (from + l) nan) (ivar_of (get_or records (from + p.half + l) nan)) (put i m) ≡ put (i + 1) m
  unfolding put_pairs
  put_next i m a b = rw (a, b, add-one)

  put-long : (w : ℕ) (m : List Float) → length (put w m) ≡ length m
  unfolding put_pairs
  put-long zero m = refl
  put-long (suc w) m = length-sets _ (p.ivars + (w * p.n + t.k)) (inverses w) ∙ length-sets _ (w * p.n + t.k) (means w) ∙ put-long w m

  -- what lies behind the pairs is as it was
  pub put-behind : (fits : t.k + t.d ≤ p.n) (w o : ℕ) (m : List Float) → p.ivars + w * p.n ≤ o → w * p.n ≤ p.ivars → drop o (put w m) ≡ drop o m
  unfolding put_pairs
  put-behind fits zero o m h g = refl
  put-behind fits (suc w) o m h g =
      let s = suc-mul w p.n in
      dropped_before (inverses w) _ o (p.ivars + (w * p.n + t.k)) (omega (arith, inverses-long w))
      ∙ dropped_before (means w) _ o (w * p.n + t.k) (omega (arith, means_long w))
      ∙ put-behind fits w o m (omega arith) (omega arith)

  module _ (fits : t.k + t.d ≤ p.n) where
    -- the windows to come are as they were
    means-kept : (w j : ℕ) (m : List Float) → w ≤ j → j * p.n + p.n ≤ p.ivars → part (j * p.n) t.k (put w m) ≡ part (j * p.n) t.k m
    unfolding put_pairs
    means-kept zero j m h o = refl
    means-kept (suc w) j m h o =
        stored-behind (inverses w) _ (j * p.n) t.k (p.ivars + (w * p.n + t.k)) (omega arith)
        ∙ stored-before (means w) _ (j * p.n) t.k (w * p.n + t.k) (omega (arith, means_long w, row_fits p.n w j (omega arith)))
        ∙ means-kept w j m (omega arith) o

    ivars-kept : (w j : ℕ) (m : List Float) → w ≤ j → w * p.n ≤ p.ivars → part (p.ivars + j * p.n) t.k (put w m) ≡ part (p.ivars + j * p.n) t.k m
    unfolding put_pairs
    ivars-kept zero j m h o = refl
    ivars-kept (suc w) j m h o =
        stored-before (inverses w) _ (p.ivars + j * p.n) t.k (p.ivars + (w * p.n + t.k)) (omega (arith, inverses-long w, row_fits p.n w j (omega arith)))
        ∙ stored-before (means w) _ (p.ivars + j * p.n) t.k (w * p.n + t.k) (omega (arith, means_long w, suc-mul w p.n))
        ∙ ivars-kept w j m (omega arith) (omega (arith, suc-mul w p.n))

    pub put-means : (w i : ℕ) (m : List Float) → i < w → w * p.n ≤ p.ivars → p.ivars + w * p.n ≤ length m → part (i * p.n) (t.k + t.d) (put w m) ≡ part (i * p.n) t.k m ++ means i
    unfolding put_pairs
    put-means zero i m h o r = absurd (omega arith)
    put-means (suc w) i m h o r =
        let s = suc-mul w p.n in
        stored-behind (inverses w) _ (i * p.n) (t.k + t.d) (p.ivars + (w * p.n + t.k)) (omega (arith, row_fits p.n i (suc w) h))
        ∙ ⊎_elim
        (λ (g : w ≤ i). let e : i ≡ w = omega arith in
        rw e (stored_at (means w) (put w m) (w * p.n) t.k (w * p.n + t.k) (t.k + t.d) refl (ap (λ (x : ℕ). t.k + x) (means_long w)) (omega (arith, means_long w, put-long w m))
        ∙ ap (λ (x : List Float). x ++ means w) (means-kept w w m (omega arith) (omega arith))))
        (λ (g : i < w). stored-behind (means w) _ (i * p.n) (t.k + t.d) (w * p.n + t.k) (omega (arith, row_fits p.n i w g)) ∙ put-means w i m g (omega arith) (omega arith))
        (le_or_lt w i)

    pub put-ivars : (w i : ℕ) (m : List Float) → i < w → w * p.n ≤ p.ivars → p.ivars + w * p.n ≤ length m → part (p.ivars + i * p.n) (t.k + t.d) (put w m) ≡ part (p.ivars + i * p.n) t.k m ++ inverses i
    unfolding put_pairs
    put-ivars zero i m h o r = absurd (omega arith)
    put-ivars (suc w) i m h o r =
        let s = suc-mul w p.n in
        let mid = sets (put w m) (w * p.n + t.k) (means w) in
        ⊎_elim
        (λ (g : w ≤ i). let e : i ≡ w = omega arith in
        rw e (stored_at (inverses w) mid (p.ivars + w * p.n) t.k (p.ivars + (w * p.n + t.k)) (t.k + t.d) (omega arith) (ap (λ (x : ℕ). t.k + x) (inverses-long w)) (rw length-sets (omega (arith, inverses-long w, put-long w m)))
        ∙ ap (λ (x : List Float). x ++ inverses w) (stored-before (means w) (put w m) (p.ivars + w * p.n) t.k (w * p.n + t.k) (omega (arith, means_long w)) ∙ ivars-kept w w m (omega arith) (omega arith))))
        (λ (g : i < w). stored-behind (inverses w) mid (p.ivars + i * p.n) (t.k + t.d) (p.ivars + (w * p.n + t.k)) (omega (arith, row_fits p.n i w g))
        ∙ stored-before (means w) _ (p.ivars + i * p.n) (t.k + t.d) (w * p.n + t.k) (omega (arith, means_long w)) ∙ put-ivars w i m g (omega arith) (omega arith))
        (le_or_lt w i)
