-- The place of a damage is right.
use mathlib.Core.Path.{◌≡◌, refl, sym, ap, ◌∙◌, subst}
use mathlib.Core.Bool.{true, true≢false}
use mathlib.Core.Logic.{◌≢◌}
use mathlib.Core.List.{List, [], ◌∷◌, ◌++◌}
use Prim.Native.Nat.{ℕ, zero, suc, ◌+◌, ◌-◌, ◌≤◌, ◌<◌, min}
use native.Mathlib.Nat.{mul-zero}
use native.Mathlib.Numerals.{add-one}
use native.Mathlib.Omega.{arith}
use lib.ListN.{length, take, drop, replicate, length-append, length-replicate, take-append-drop}
use lib.Seq.{length-take-le, drop_at, get_or-drop}
use borrow.Author.Tests.{ne_eqb}
use Rattle.lists.specs.Sizes.{most_job_states}
use Rattle.lists.specs.Bytes.{little, alike, Bytes, word_at}
use Rattle.lists.proofs.Numbers.{by_place}
use Rattle.lists.proofs.Fronts.{alike_is, is_alike, alike-still, part_same}
use Rattle.job.specs.declared.Damage.{Damage}
use Rattle.std.specs.Prelude.{Ok, Err}
use Rattle.job.specs.Format.{mark, version_of, is_known, count_of, whole_of, IsJob}
use Rattle.job.specs.Damage.{Found, wrong, damage_of}
use Rattle.job.specs.Places.{Begins, looked_to, PlaceRight}
use Rattle.lists.proofs.Spelled.{bytes-append}
use Rattle.job.proofs.Written.{bytes-mark}
use Rattle.job.proofs.Damages.{Way, wrong_mark, ends_early, wrong_version, ends_in_count, wrong_count, wrong_length, nowhere, way}

-- ---- what a front says of every file that begins so

module _ (bytes rest : List ℕ) (n : ℕ) (h : n ≤ length bytes) where
  abbrev like : List ℕ
  like = take n bytes ++ rest

  front-part : (at k : ℕ) → at + k ≤ n → take k (drop at like) ≡ take k (drop at bytes)
  front-part at k g = part_same (take n bytes) rest (drop n bytes) at k (rw (length-take-le n bytes h) g) ∙ ap (λ (l : List ℕ). take k (drop at l)) (take-append-drop n bytes)

  like-marked : 3 ≤ n → take 3 like ≡ take 3 bytes
  like-marked g = front-part 0 3 g

  like-word : (at : ℕ) → at + 2 ≤ n → word_at like at ≡ word_at bytes at
  like-word at g = ap little (front-part at 2 g)

  like-known : 5 ≤ n → is_known (version_of like) ≡ is_known (version_of bytes)
  like-known g = ap is_known (like-word 3 g)

  like-whole : 7 ≤ n → whole_of like ≡ whole_of bytes
  like-whole g = rw (like-word 3 (omega arith), like-word 5 g)

  like-long : length like ≡ n + length rest
  like-long = length-append (take n bytes) rest ∙ ap (λ (k : ℕ). k + length rest) (length-take-le n bytes h)

-- ---- a front that begins a job

-- the job of no states and the speed 0
abbrev blank : List ℕ
blank = mark ++ (1 ∷ replicate 11 0)

zeros-each : (n : ℕ) → Bytes (replicate n 0)
zeros-each zero i = omega arith
zeros-each (suc n) zero = omega arith
zeros-each (suc n) (suc i) = zeros-each n i

blank-each : Bytes blank
blank-each = bytes-append mark (1 ∷ replicate 11 0) bytes-mark (bytes-append (1 ∷ []) (replicate 11 0) one_each (zeros-each 11))
  where
    one_each : Bytes (1 ∷ [])
    one_each zero = omega arith
    one_each (suc i) = omega arith

behind-each : (n : ℕ) → Bytes (drop n blank)
behind-each n i = rw (get_or-drop n blank i 0) (blank-each (n + i))

blank-job : IsJob blank
unfolding little
blank-job = record { marked = refl; versioned = refl; few = omega arith; whole = refl }

mark-begins : (n : ℕ) → n ≤ 3 → IsJob (take n mark ++ drop n blank)
mark-begins zero h = blank-job
mark-begins (suc zero) h = blank-job
mark-begins (suc (suc zero)) h = blank-job
mark-begins (suc (suc (suc zero))) h = blank-job
mark-begins (suc (suc (suc (suc n)))) h = absurd (omega arith)

module _ (bytes : List ℕ) where
  front-begins : (n : ℕ) → n ≤ 3 → n ≤ alike mark bytes → Begins (take n bytes)
  front-begins n h g = record { rest = drop n blank; each = behind-each n; job = rw (alike_is mark bytes n g) (mark-begins n h) }

  module _ (m : 3 ≤ alike mark bytes) (v : is_known (version_of bytes) ≡ true) where
    marked : take 3 bytes ≡ mark
    marked = alike_is mark bytes 3 m

    version-begins : 5 ≤ length bytes → Begins (take 5 bytes)
    unfolding little
    version-begins h =
        let rest : List ℕ = replicate 10 0 in
        let c : count_of (take 5 bytes ++ rest) ≡ 0 = ap (λ (l : List ℕ). little (take 2 l)) (drop_at (take 5 bytes) rest 5 (length-take-le 5 bytes h)) in
        record {
          rest = rest;
          each = zeros-each 10;
          job = record {
            marked = like-marked bytes rest 5 h (omega arith) ∙ marked;
            versioned = like-known bytes rest 5 h (omega arith) ∙ v;
            few = rw c (omega arith);
            whole = rw (c, mul-zero) (like-long bytes rest 5 h);
          };
        }

    count-begins : count_of bytes ≤ most_job_states → (n : ℕ) → 7 ≤ n → n ≤ length bytes → n ≤ whole_of bytes → Begins (take n bytes)
    count-begins few n seven h g =
        let more : ℕ = whole_of bytes - n in
        let rest : List ℕ = replicate more 0 in
        record {
          rest = rest;
          each = zeros-each more;
          job = record {
            marked = like-marked bytes rest n h (omega arith) ∙ marked;
            versioned = like-known bytes rest n h (omega arith) ∙ v;
            few = rw (like-word bytes rest n h 5 (omega arith)) few;
            whole = like-long bytes rest n h ∙ omega (arith, length-replicate {A = ℕ} more 0) ∙ sym (like-whole bytes rest n h seven);
          };
        }

-- ---- in each way

looked-all : (n : ℕ) → n ≢ 4 → n ≢ 6 → looked_to n ≡ n
looked-all n a b = rw (ne_eqb n 4 a, ne_eqb n 6 b)

abbrev Right : List ℕ → Found → Type 0
Right bytes (Ok none) = Unit {0}
Right bytes (Err w) = PlaceRight bytes w.damage w.place

module _ (bytes : List ℕ) where
  early-begins : (n : ℕ) → n ≡ length bytes → n < 5 → min 3 n ≤ alike mark bytes → Begins (take (looked_to n) bytes)
  early-begins n e l h = by_place
      4
      (λ (k : ℕ). k ≡ n → Begins (take (looked_to k) bytes))
      n
      (λ (d : n ≢ 4) q. rw (looked-all n d (omega arith)) (front-begins bytes n (omega arith) (omega arith)))
      (λ q. front-begins bytes 3 (omega arith) (omega arith))
      refl

  in_count_begins : (n : ℕ) → n ≡ length bytes → 3 ≤ alike mark bytes → is_known (version_of bytes) ≡ true → 5 ≤ n → n < 7 → Begins (take (looked_to n) bytes)
  in_count_begins n e m v l g = by_place
      6
      (λ (k : ℕ). k ≡ n → Begins (take (looked_to k) bytes))
      n
      (λ (d : n ≢ 6) q. let five : n ≡ 5 = omega arith in rw five (version-begins bytes m v (omega arith)))
      (λ q. version-begins bytes m v (omega arith))
      refl

  none-marked : alike mark bytes < 3 → alike mark bytes < length bytes → Begins (take (alike mark bytes + 1) bytes) → ⊥
  none-marked h g b =
      let front : List ℕ = take (suc (alike mark bytes)) bytes ++ b.rest in
      let j : IsJob front = rw add-one at b.job in
      omega (arith, is_alike mark front j.marked, alike-still mark bytes b.rest h g)

  none_as_long : (p : ℕ) → 7 ≤ p → p < length bytes → p ≡ whole_of bytes → Begins (take (p + 1) bytes) → ⊥
  none_as_long p l i e b = omega (arith, b.job.whole, like-long bytes b.rest (p + 1) (omega arith), like-whole bytes b.rest (p + 1) (omega arith) (omega arith))

  way-right : (f : Found) → Way bytes f → Right bytes f
  way-right f (wrong_mark h g) =
      let p : ℕ = alike mark bytes in
      record {
        within = omega arith;
        before = rw (looked-all p (λ e. omega arith) (λ e. omega arith)) (front-begins bytes p (omega arith) (omega arith));
        there = λ i. none-marked h i;
        ends = λ e j. absurd (omega arith);
      }
  way-right f (ends_early l h) =
      record {
        within = omega arith;
        before = early-begins (length bytes) refl l h;
        there = λ i b. omega arith;
        ends = λ e j. omega (arith, j.whole);
      }
  way-right f (wrong_version m l d) =
      record {
        within = omega arith;
        before = front-begins bytes 3 (omega arith) m;
        there = λ i b. true≢false (sym b.job.versioned ∙ like-known bytes b.rest 5 l (omega arith) ∙ d);
        ends = λ e j. omega arith;
      }
  way-right f (ends_in_count m v l g) =
      record {
        within = omega arith;
        before = in_count_begins (length bytes) refl m v l g;
        there = λ i b. omega arith;
        ends = λ e j. omega (arith, j.whole);
      }
  way-right f (wrong_count m v l g) =
      record {
        within = omega arith;
        before = version-begins bytes m v (omega arith);
        there = λ i b. omega (arith, like-word bytes b.rest 7 l 5 (omega arith), b.job.few);
        ends = λ e j. omega arith;
      }
  way-right f (wrong_length m v l g d) =
      let p : ℕ = min (length bytes) (whole_of bytes) in
      record {
        within = omega arith;
        before = rw (looked-all p (λ e. omega arith) (λ e. omega arith)) (count-begins bytes m v g p (omega arith) (omega arith) (omega arith));
        there = λ i. none_as_long p (omega arith) i (omega arith);
        ends = λ e j. d j.whole;
      }
  way-right f (nowhere j) = tt

-- of every file that is damaged
pub place-right : (bytes : List ℕ) (what : Damage) (place : ℕ) → damage_of bytes ≡ wrong what place → PlaceRight bytes what place
place-right bytes what place e = subst (Right bytes) e (way-right bytes (damage_of bytes) (way bytes))
