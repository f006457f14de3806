-- The ways out of the call of the band rows, and that its promise allows one outcome.
use mathlib.Core.Path.{◌≡◌, refl, sym, ap, ◌∙◌}
use mathlib.Core.Bool.{Bool, true, false, cond}
use mathlib.Core.List.{List, [], ◌∷◌, ◌++◌}
use Prim.Native.Nat.{ℕ, zero, suc, ◌+◌, ◌-◌, ◌*◌, ◌/◌, ◌%◌, ◌<◌, ◌≤◌, max}
use native.Mathlib.Nat.{suc-mul, mul_comm, add-sub_cancel_left, div-add-mod'}
use native.Mathlib.Numerals.{add-one}
use native.Mathlib.Omega.{arith}
use borrow.Author.Tests.{lt-ltb, le-ltb, ltb-false, eq-eqb, ne_eqb, eqb-true}
use borrow.Rule.Slice.PartMut.{put_mid}
use lib.Dec.{ltb, eqb}
use lib.ListN.{length, get_or, take, drop}
use lib.Seq.{sets, length-sets}
use lib.Ieee.{Float}
use Rattle.lists.specs.Build.{fold_from}
use Rattle.lists.specs.Refusals.{number_of, or_else}
use Rattle.lists.proofs.Answers.{same, untouched, accepted}
use Rattle.model.specs.Windows.{window_refusal, longest, band_width}
use Rattle.model.proofs.Accepted.{accepted-whole, width_few}
use Rattle.lists.specs.Build.{rows}
use Rattle.band.specs.Paper.{band_rows, right_side}
use Rattle.band.specs.Inner.Fits.{Taps}
use Rattle.band.specs.Promise.{frame_count, set_refusal, band_refusal, BandSays}
use Rattle.lists.specs.Answers.{answer_of}
use Rattle.lists.specs.Ends.{counted}
use Rattle.lists.specs.declared.Refusal.{Refusal}
use Rattle.lists.specs.declared.Refusal.TheVariants.{ListsDisagree, TooManyFrames, TooLittleRoom}
use Rattle.lists.proofs.Ends.{some_number, stops, stopped, not-counted, counted-one}
use Rattle.std.proofs.Common.{Result, Ok, Err}
use Rattle.lists.proofs.Regions.{returned, stored_at}
use Rattle.band.proofs.Lengths.{matrix-length, side-length}

-- ---- the rows that are written

module _ (r : ℕ → List Float) (w : ℕ) where
  pub row_written : (l x : List Float) (t b : ℕ) → length x ≡ w → b ≡ t * w → b + w ≤ length l → take (t * w) l ≡ rows r t → x ≡ r t
      → (take ((t + 1) * w) (put_mid b (b + w - b) l x) ≡ rows r (t + 1)) × (length (put_mid b (b + w - b) l x) ≡ length l)
  unfolding rows
  row_written l x t b e z h k o =
      let c : b + w - b ≡ w = add-sub_cancel_left b w in
      let back : put_mid b (b + w - b) l x ≡ sets l b x = returned b (b + w) l x (omega arith) h (e ∙ sym c) in
      let more : (t + 1) * w ≡ t * w + w = rw (add-one, suc-mul) in (
        ap (λ (q : List Float). take ((t + 1) * w) q) back ∙ stored_at x l 0 (t * w) b ((t + 1) * w) (omega arith) (omega arith) (omega arith) ∙ rw (k, o, add-one),
        ap length back ∙ length-sets l b x,
      )

-- ---- a set's widths and its band

grows : (xs : List ℕ) (a : ℕ) → a ≤ fold_from max a xs
unfolding fold_from
grows [] a = omega arith
grows (x ∷ xs) a = omega (arith, grows xs (max a x))

under : (xs : List ℕ) (a i : ℕ) → i < length xs → get_or xs i 0 ≤ fold_from max a xs
unfolding fold_from
under [] a i h = absurd (omega arith)
under (x ∷ xs) a zero h = omega (arith, grows xs (max a x))
under (x ∷ xs) a (suc i) h = under xs (max a x) i (omega arith)

most : (xs : List ℕ) (a b : ℕ) → a ≤ b → ((i : ℕ) → i < length xs → get_or xs i 0 ≤ b) → fold_from max a xs ≤ b
unfolding fold_from
most [] a b h e = h
most (x ∷ xs) a b h e = most xs (max a x) b (omega (arith, e 0 (omega arith))) (λ i l. e (suc i) (omega arith))

module _ (ws : List ℕ) (cs : List Float) (ok : window_refusal ws cs ≡ 0) where
  pub band-narrow : band_width ws ≤ 15
  unfolding longest
  band-narrow = omega (arith, most ws 0 15 (omega arith) (λ i l. width_few ws cs ok i l))

  pub set-taps : Taps ws cs (band_width ws)
  unfolding longest
  set-taps = record { taps = omega (arith, accepted-whole ws cs ok); narrow = λ i l. omega (arith, under ws 0 i l) }

-- ---- how many frames there are

module _ (ws : List ℕ) (cs : List Float) (m i : ℕ) where
  abbrev framed : Result ℕ Refusal → Type 0
  framed r = counted r ≡ answer_of (set_refusal ws cs m i) (frame_count ws m ∷ [])

  pub frames-windows : (e : Refusal) → number_of e ≡ window_refusal ws cs → framed (Err e)
  unfolding set_refusal
  frames-windows e q = not-counted e _ _ (stops e (window_refusal ws cs) _ q)

  module _ (z : 0 ≡ window_refusal ws cs) where
    pub frames-rest : (m % length ws ≡ 0 → ⊥) → framed (Err ListsDisagree)
    unfolding set_refusal
    frames-rest h = rw (← z, ne_eqb (m % length ws) 0 h)

    module _ (q : m % length ws ≡ 0) where
      pub frames-other : (i ≡ m → ⊥) → framed (Err ListsDisagree)
      unfolding set_refusal
      frames-other h = rw (← z, eq-eqb (m % length ws) 0 q, ne_eqb i m h)

      module _ (e : i ≡ m) where
        pub frames-many : 65536 < m / length ws → framed (Err TooManyFrames)
        unfolding set_refusal
        frames-many h = rw (← z, eq-eqb (m % length ws) 0 q, eq-eqb i m e, lt-ltb 65536 (m / length ws) h)

        pub frames-few : m / length ws ≤ 65536 → framed (Ok (m / length ws))
        unfolding set_refusal
        frames-few h = rw (← z, eq-eqb (m % length ws) 0 q, eq-eqb i m e, le-ltb 65536 (m / length ws) h)

-- what an accepted set of lists has
pub record Agree (ws : List ℕ) (cs : List Float) (m i : ℕ) : Type 0 where
  pub windows : window_refusal ws cs ≡ 0
  pub whole : length ws * (m / length ws) ≡ m
  pub same : i ≡ m
  pub few : m / length ws ≤ 65536

chain : (k : ℕ) (x y t : Bool) → ◌≡◌ {A = ℕ} (or_else k (or_else (cond x 0 4) (or_else (cond y 0 4) (cond t 5 0)))) 0 → (k ≡ 0) × (x ≡ true) × (y ≡ true) × (t ≡ false)
chain (suc k) x y t h = absurd (omega arith)
chain zero false y t h = absurd (omega arith)
chain zero true false t h = absurd (omega arith)
chain zero true true true h = absurd (omega arith)
chain zero true true false h = (refl, refl, refl, refl)

pub agree : (ws : List ℕ) (cs : List Float) (m i : ℕ) → set_refusal ws cs m i ≡ 0 → Agree ws cs m i
unfolding set_refusal
agree ws cs m i z =
    let t = chain (window_refusal ws cs) (eqb (m % length ws) 0) (eqb i m) (ltb 65536 (m / length ws)) z in
    let r : m % length ws ≡ 0 = eqb-true (m % length ws) 0 t.1 in
    record {
      windows = t.0;
      whole = mul_comm (length ws) (m / length ws) ∙ omega (arith, div-add-mod' m (length ws));
      same = eqb-true i m t.2;
      few = ltb-false 65536 (m / length ws) t.3;
    }

-- ---- the call

module _ (ws : List ℕ) (cs ms us A R : List Float) where
  abbrev n : ℕ
  n = frame_count ws (length ms)

  abbrev refusal : ℕ
  refusal = band_refusal ws cs ms us A R

  refuses : (e : Refusal) → number_of e ≡ refusal → BandSays ws cs ms us A R (Err e) A R
  refuses e q =
      let none : refusal ≡ 0 → ⊥ = λ z. let k = some_number e in omega arith in
      record { answer = not-counted e refusal n q; matrix = untouched refusal _ A none; side = untouched refusal _ R none }

  pub band-stops : (e : Refusal) → counted (Err e) ≡ answer_of (set_refusal ws cs (length ms) (length us)) (n ∷ []) → BandSays ws cs ms us A R (Err e) A R
  unfolding band_refusal
  band-stops e q = refuses e (sym ((stopped _ n e q).1 _))

  module _ (z : set_refusal ws cs (length ms) (length us) ≡ 0) where
    pub band_rows-short : length A < n * band_width ws → BandSays ws cs ms us A R (Err TooLittleRoom) A R
    unfolding band_refusal
    band_rows-short h = refuses TooLittleRoom (rw (z, lt-ltb (length A) (n * band_width ws) h))

    module _ (h : n * band_width ws ≤ length A) where
      pub band-right-short : length R < n → BandSays ws cs ms us A R (Err TooLittleRoom) A R
      unfolding band_refusal
      band-right-short g = refuses TooLittleRoom (rw (z, le-ltb (length A) (n * band_width ws) h, lt-ltb (length R) n g))

      none : n ≤ length R → refusal ≡ 0
      unfolding band_refusal
      none g = rw (z, le-ltb (length A) (n * band_width ws) h, le-ltb (length R) n g)

      band-done : n ≤ length R → (X Y : List Float) → X ≡ band_rows ws cs n us (band_width ws) → Y ≡ right_side ws cs n us ms
          → BandSays ws cs ms us A R (Ok n) (X ++ drop (n * band_width ws) A) (Y ++ drop n R)
      band-done g X Y e o = record {
        answer = accepted _ _ _ (none g) refl;
        matrix = rw (none g, e, matrix-length ws cs n us ms (band_width ws));
        side = rw (none g, o, side-length ws cs n us ms (band_width ws));
      }

    pub band-finished : (N W : ℕ) (X Y : List Float) → N ≡ n → W ≡ band_width ws → N * W ≤ length A → N ≤ length R
        → X ≡ band_rows ws cs N us W → Y ≡ right_side ws cs N us ms → BandSays ws cs ms us A R (Ok N) (X ++ drop (N * W) A) (Y ++ drop N R)
    band-finished N W X Y eN eW h g e f = rw (eN, eW) (band-done (rw (eN, eW) at h) (rw eN at g) X Y (rw (eN, eW) at e) (rw eN at f))

-- ---- one outcome

pub band-one : (ws : List ℕ) (cs ms us A R : List Float) (x y : Result ℕ Refusal) (A₁ R₁ A₂ R₂ : List Float)
    → BandSays ws cs ms us A R x A₁ R₁ → BandSays ws cs ms us A R y A₂ R₂ → (x ≡ y) × (A₁ ≡ A₂) × (R₁ ≡ R₂)
band-one ws cs ms us A R x y A₁ R₁ A₂ R₂ a b =
    (counted-one x y (same (a.answer ∙ sym b.answer)), a.matrix ∙ sym b.matrix, a.side ∙ sym b.side)
