-- What is read from a job is written in its version as the same bytes, if these have no NaN but the one that is written, and only then.
use mathlib.Core.Path.{◌≡◌, refl, sym, ap, ◌∙◌}
use mathlib.Core.Bool.{true, false, cond}
use mathlib.Core.List.{List, [], ◌++◌, append_assoc, append-nil}
use mathlib.Core.Logic.{⊎_elim}
use Prim.Native.Nat.{ℕ, zero, suc, ◌+◌, ◌*◌, ◌^◌, ◌<◌, ◌≤◌}
use native.Mathlib.Nat.{mul-zero, mul-suc, mul-le-mul_left}
use native.Mathlib.Omega.{arith}
use lib.Dec.{eqb}
use lib.ListN.{length, take, drop, get_or, replicate, length-replicate, get_or-replicate, take-append-drop, drop_of_length-le, get_or-eq_default}
use lib.Seq.{drop-drop}
use lib.Ieee.{Float, nan, binary64, fits, to_bits}
use lib.Ieee.Bits.{to_bits-lt, of_bits-fits}
use borrow.Author.Tests.{eq-eqb}
use Rattle.lists.specs.Build.{build}
use Rattle.floats.specs.Numbers.{Held}
use Rattle.lists.specs.Bytes.{little, bytes_of, Bytes, word_at, pattern_at}
use Rattle.lists.proofs.Builds.{build-first, build-at, build_is}
use Rattle.lists.proofs.Bytes.{little-bytes}
use Rattle.lists.proofs.Fills.{build-length}
use Rattle.lists.proofs.Numbers.{le_or_lt}
use Rattle.lists.proofs.Spelled.{part-spelled, part-below, some_below}
use Rattle.floats.proofs.Patterns.{bits_back, bits_only}
use Rattle.job.specs.Format.{float_at, number_at, floats_at, mark, version_of, count_of, state_bytes, IsJob, numbers_behind, shortest_at, job_of}
use Rattle.job.specs.Damage.{sound, damage_of}
use Rattle.job.specs.Written.{bytes_of_float, bytes_of_state, bytes_of_states, bytes_of_heading, bytes_of_job, Writable, OneNan, Plain}
use Rattle.job.proofs.Damages.{sound-job}
use Rattle.job.proofs.Pairs.{floats-long, shortest-long}
use Rattle.job.proofs.Written.{mean-part, vari-part, speed-part, written-bytes}

-- k bytes from a place on, before what is behind them
part-before : (bytes : List ℕ) (at k : ℕ) → take k (drop at bytes) ++ drop (at + k) bytes ≡ drop at bytes
part-before bytes at k = rw (← drop-drop k at bytes) (take-append-drop k (drop at bytes))

-- states that are each the bytes at their place are all the bytes
states-before : (version : ℕ) (f g : ℕ → Float) (s : ℕ → ℕ) (rest : ℕ → List ℕ) (n : ℕ) → ((i : ℕ) → i < n → bytes_of_state version (f i) (g i) (s i) ++ rest (suc i) ≡ rest i)
    → bytes_of_states version (build f n) (build g n) (build s n) ++ rest n ≡ rest 0
unfolding bytes_of_states build
states-before version f g s rest zero h = refl
states-before version f g s rest (suc n) h =
    rw (build-first f n, build-first g n, build-first s n)
    (append_assoc (bytes_of_state version (f 0) (g 0) (s 0)) _ (rest (suc n))
    ∙ ap (λ (l : List ℕ). bytes_of_state version (f 0) (g 0) (s 0) ++ l) (states-before version (λ i. f (suc i)) (λ i. g (suc i)) (λ i. s (suc i)) (λ i. rest (suc i)) n (λ i l. h (suc i) (omega arith)))
    ∙ h 0 (omega arith))

-- the shortest of a state
abbrev short_of : ℕ → List ℕ → ℕ → ℕ
short_of version bytes i = cond (eqb version 1) 1 (number_at bytes (31 + 20 * i))

shortest_is : (version : ℕ) (bytes : List ℕ) (n : ℕ) → shortest_at version bytes n ≡ build (short_of version bytes) n
unfolding numbers_behind
shortest_is version bytes n =
    (elim (eqb version 1) as (λ t. cond t (replicate n 1) (numbers_behind bytes n) ≡ build (λ (i : ℕ). cond t 1 (number_at bytes (31 + 20 * i))) n) [
      | true ↦ build_is (λ (i : ℕ). 1) n (replicate n 1) 0 (length-replicate n 1) (λ i h. get_or-replicate n i 1 0 h)
      | false ↦ refl
    ])

state-least : (version : ℕ) → 16 ≤ state_bytes version
state-least version = (elim (eqb version 1) as (λ t. 16 ≤ cond t 16 20) [ true ↦ omega arith | false ↦ omega arith ])

module _ (bytes : List ℕ) (j : IsJob bytes) (p : Plain bytes) where
  abbrev n : ℕ
  n = count_of bytes

  abbrev version : ℕ
  version = version_of bytes

  abbrev step : ℕ
  step = state_bytes version

  -- a state lies within the bytes
  state_in : (i : ℕ) → i < n → 15 + step * i + step ≤ length bytes
  state_in i h = omega (arith, j.whole, mul-le-mul_left step h, mul-suc step i)

  -- a number of 16 bits, and a float, before what is behind it
  word-before : (at : ℕ) → at + 2 ≤ length bytes → bytes_of 2 (word_at bytes at) ++ drop (at + 2) bytes ≡ drop at bytes
  word-before at h = rw (part-spelled bytes p.each at 2 h) (part-before bytes at 2)

  float_before : (at : ℕ) → at + 8 ≤ length bytes → OneNan (pattern_at bytes at) → bytes_of_float (float_at bytes at) ++ drop (at + 8) bytes ≡ drop at bytes
  float_before at h q = rw (bits_back (pattern_at bytes at) (part-below bytes p.each at 8 h) q, part-spelled bytes p.each at 8 h) (part-before bytes at 8)

  module _ (i : ℕ) (h : i < n) where
    abbrev mean : List ℕ
    mean = bytes_of_float (float_at bytes (15 + step * i))

    abbrev vari : List ℕ
    vari = bytes_of_float (float_at bytes (23 + step * i))

    -- a shortest, which version 1 has none of, before the next state
    number-before : cond (eqb version 1) [] (bytes_of 4 (short_of version bytes i)) ++ drop (15 + step * suc i) bytes ≡ drop (31 + step * i) bytes
    number-before =
        (elim (eqb version 1) as (λ t. eqb version 1 ≡ t → cond t [] (bytes_of 4 (cond t 1 (number_at bytes (31 + 20 * i)))) ++ drop (15 + cond t 16 20 * suc i) bytes ≡ drop (31 + cond t 16 20 * i) bytes) [
          | true ↦ λ q. let e : 15 + 16 * suc i ≡ 31 + 16 * i = omega arith in ap (λ (k : ℕ). drop k bytes) e
          | false ↦ λ q.
              let e : 15 + 20 * suc i ≡ 31 + 20 * i + 4 = omega arith in
              let l : 15 + 20 * i + 20 ≤ length bytes = rw q at (state_in i h) in
              ap (λ (k : ℕ). bytes_of 4 (number_at bytes (31 + 20 * i)) ++ drop k bytes) e ∙ rw (part-spelled bytes p.each (31 + 20 * i) 4 (omega arith)) (part-before bytes (31 + 20 * i) 4)
        ])
        refl

    state-before : bytes_of_state version (float_at bytes (15 + step * i)) (float_at bytes (23 + step * i)) (short_of version bytes i) ++ drop (15 + step * suc i) bytes ≡ drop (15 + step * i) bytes
    state-before =
        let s : List ℕ = cond (eqb version 1) [] (bytes_of 4 (short_of version bytes i)) in
        let a : 31 + step * i ≡ 23 + step * i + 8 = omega arith in
        let b : 23 + step * i ≡ 15 + step * i + 8 = omega arith in
        let l = state_in i h in
        let m = state-least version in
        append_assoc mean (vari ++ s) (drop (15 + step * suc i) bytes)
        ∙ ap (λ (l : List ℕ). mean ++ l) (append_assoc vari s (drop (15 + step * suc i) bytes)
        ∙ ap (λ (l : List ℕ). vari ++ l) (number-before ∙ ap (λ (k : ℕ). drop k bytes) a)
        ∙ float_before (23 + step * i) (omega arith) (p.varis i h)
        ∙ ap (λ (k : ℕ). drop k bytes) b)
        ∙ float_before (15 + step * i) (omega arith) (p.means i h)

  states_are : bytes_of_states version (floats_at bytes 15 step n) (floats_at bytes 23 step n) (shortest_at version bytes n) ++ drop (15 + step * n) bytes ≡ drop 15 bytes
  unfolding floats_at
  states_are =
      let z : 15 + step * 0 ≡ 15 = rw (mul-zero step) in
      rw (shortest_is version bytes n) (states-before version (λ (i : ℕ). float_at bytes (15 + step * i)) (λ (i : ℕ). float_at bytes (23 + step * i)) (short_of version bytes) (λ (i : ℕ). drop (15 + step * i) bytes) n state-before)
      ∙ ap (λ (k : ℕ). drop k bytes) z

  none_left : drop (15 + step * n) bytes ≡ []
  none_left = let h : length bytes ≤ 15 + step * n = omega (arith, j.whole) in drop_of_length-le bytes h

  heading-before : bytes_of_heading version n (float_at bytes 7) ++ drop 15 bytes ≡ bytes
  unfolding bytes_of_heading
  heading-before =
      let s : List ℕ = bytes_of_float (float_at bytes 7) in
      let c : List ℕ = bytes_of 2 n in
      let w : List ℕ = bytes_of 2 version in
      let t : List ℕ = drop 15 bytes in
      append_assoc mark (w ++ (c ++ s)) t
      ∙ ap (λ (l : List ℕ). mark ++ l) (append_assoc w (c ++ s) t ∙ ap (λ (l : List ℕ). w ++ l) (append_assoc c s t))
      ∙ ap (λ (l : List ℕ). mark ++ (w ++ (c ++ l))) (float_before 7 (omega (arith, j.whole)) p.speed)
      ∙ ap (λ (l : List ℕ). mark ++ (w ++ l)) (word-before 5 (omega (arith, j.whole)))
      ∙ ap (λ (l : List ℕ). mark ++ l) (word-before 3 (omega (arith, j.whole)))
      ∙ ap (λ (l : List ℕ). l ++ drop 3 bytes) (sym j.marked)
      ∙ take-append-drop 3 bytes

  job-rewritten : bytes_of_job version (job_of bytes) ≡ bytes
  unfolding bytes_of_job
  job-rewritten =
      let q : List ℕ = bytes_of_states version (floats_at bytes 15 step n) (floats_at bytes 23 step n) (shortest_at version bytes n) in
      ap (λ (k : ℕ). bytes_of_heading version k (float_at bytes 7) ++ q) (floats-long bytes 15 step n)
      ∙ ap (λ (l : List ℕ). bytes_of_heading version n (float_at bytes 7) ++ l) (sym (append-nil q) ∙ ap (λ (l : List ℕ). q ++ l) (sym none_left) ∙ states_are)
      ∙ heading-before

-- a file that is accepted, and has no NaN but the one that is written, is written again as it was
pub rewritten : (bytes : List ℕ) → damage_of bytes ≡ sound → Plain bytes → bytes_of_job (version_of bytes) (job_of bytes) ≡ bytes
rewritten bytes e p = job-rewritten bytes (sound-job bytes e) p

-- ---- and only such a file

floats_at_lem : (bytes : List ℕ) (at step n i : ℕ) → i < n → get_or (floats_at bytes at step n) i nan ≡ float_at bytes (at + step * i)
unfolding floats_at
floats_at_lem bytes at step n i h = build-at (λ (k : ℕ). float_at bytes (at + step * k)) n i nan h

floats-fit : (bytes : List ℕ) (at step n : ℕ) → Held (floats_at bytes at step n)
unfolding fits
floats-fit bytes at step n i = ⊎_elim
    (λ (g : n ≤ i). let l : length (floats_at bytes at step n) ≤ i = omega (arith, floats-long bytes at step n) in rw (get_or-eq_default (floats_at bytes at step n) nan l) tt)
    (λ (g : i < n). rw (floats_at_lem bytes at step n i g) (of_bits-fits binary64 (pattern_at bytes (at + step * i))))
    (le_or_lt n i)

numbers_fit : (bytes : List ℕ) → Bytes bytes → (n i : ℕ) → get_or (numbers_behind bytes n) i 0 < 2 ^ 32
unfolding numbers_behind
numbers_fit bytes b n i =
    let f : ℕ → ℕ = λ k. number_at bytes (31 + 20 * k) in
    ⊎_elim
    (λ (g : n ≤ i). let l : length (build f n) ≤ i = omega (arith, build-length f n) in rw (get_or-eq_default (build f n) 0 l) (omega arith))
    (λ (g : i < n). rw (build-at f n i 0 g) (some_below bytes b (31 + 20 * i) 4))
    (le_or_lt n i)

module _ (bytes : List ℕ) (b : Bytes bytes) (j : IsJob bytes) where
  abbrev count : ℕ
  count = count_of bytes

  abbrev size : ℕ
  size = state_bytes (version_of bytes)

  means_long : length (job_of bytes).means ≡ count
  means_long = floats-long bytes 15 size count

  -- what is read can be written, in the version in which it stood
  pub read-writable : Writable (version_of bytes) (job_of bytes)
  read-writable =
      record {
        known = j.versioned;
        few = rw means_long j.few;
        agree = (floats-long bytes 23 size count ∙ sym means_long, shortest-long (version_of bytes) bytes count ∙ sym means_long);
        speed = of_bits-fits binary64 (pattern_at bytes 7);
        means = floats-fit bytes 15 size count;
        varis = floats-fit bytes 23 size count;
        ones = λ e. rw (eq-eqb (version_of bytes) 1 e, floats-long bytes 15 16 count);
        small = λ e. rw e (numbers_fit bytes b count);
      }

  module _ (r : bytes_of_job (version_of bytes) (job_of bytes) ≡ bytes) where
    -- a float that stands where it is written
    nan_at : (at : ℕ) → take 8 (drop at (bytes_of_job (version_of bytes) (job_of bytes))) ≡ bytes_of_float (float_at bytes at) → OneNan (pattern_at bytes at)
    nan_at at e =
        let b : ℕ = to_bits binary64 (float_at bytes at) in
        bits_only (pattern_at bytes at) (sym (little-bytes 8 b (to_bits-lt binary64 (float_at bytes at) (of_bits-fits binary64 (pattern_at bytes at)))) ∙ ap little (sym e ∙ ap (λ (l : List ℕ). take 8 (drop at l)) r))

    module _ (k : ℕ) (h : k < count) where
      within : k < length (job_of bytes).means
      within = rw means_long h

      mean-nan : OneNan (pattern_at bytes (15 + size * k))
      mean-nan = nan_at (15 + size * k) (mean-part (version_of bytes) (job_of bytes) read-writable k within ∙ ap bytes_of_float (floats_at_lem bytes 15 size count k h))

      vari-nan : OneNan (pattern_at bytes (23 + size * k))
      vari-nan = nan_at (23 + size * k) (vari-part (version_of bytes) (job_of bytes) read-writable k within ∙ ap bytes_of_float (floats_at_lem bytes 23 size count k h))

    only_plain : Plain bytes
    only_plain = record { each = b; speed = nan_at 7 (speed-part (version_of bytes) (job_of bytes) read-writable); means = mean-nan; varis = vari-nan }

pub rewritten_only : (bytes : List ℕ) → damage_of bytes ≡ sound → bytes_of_job (version_of bytes) (job_of bytes) ≡ bytes → Plain bytes
rewritten_only bytes e r = let b : Bytes bytes = rw r at (written-bytes (version_of bytes) (job_of bytes)) in only_plain bytes b (sound-job bytes e) r
