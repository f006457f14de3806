-- What is found wrong with a file: nothing exactly where it is a job, else the first departure by place.
use mathlib.Core.Path.{◌≡◌, refl, sym, ap, ◌∙◌, subst}
use mathlib.Core.Bool.{Bool, true, false, not, cond, ◌||◌}
use mathlib.Core.Logic.{◌⊎◌, inl, inr, ⊎_elim}
use mathlib.Core.List.{List}
use Prim.Native.Nat.{ℕ, zero, suc, ◌+◌, ◌*◌, ◌≤◌, ◌<◌, min, zero-le}
use native.Mathlib.Nat.{mul-le-mul_right}
use native.Mathlib.Omega.{arith}
use lib.Dec.{ltb, eqb}
use lib.ListN.{length, take}
use borrow.Author.Tests.{eq-eqb, ne_eqb, lt-ltb, le-ltb, ltb-false}
use Rattle.lists.specs.Sizes.{most_job_states}
use Rattle.lists.specs.Bytes.{alike, word_at}
use Rattle.lists.proofs.Numbers.{le_or_lt, same_or_not}
use Rattle.lists.proofs.Fronts.{alike_is, is_alike}
use Rattle.job.specs.declared.Damage.{Damage}
use Rattle.job.specs.declared.Damage.TheVariants.{Mark, Version, Count, Length}
use Rattle.std.specs.Prelude.{Ok, Err}
use Rattle.std.specs.Result.{result_and}
use Rattle.job.specs.declared.finding.Wrong.{Wrong}
use Rattle.job.specs.Format.{mark, version_of, is_known, count_of, state_bytes, length_of, whole_of, IsJob}
use Rattle.job.specs.Damage.{Found, sound, wrong, else_found, found_to, mark_found, word_found, length_found, damage_of}
use Rattle.lists.proofs.Flags.{neither}

-- ---- a number that is what it may be, or is not

inside : (w least most : ℕ) → least ≤ w → w ≤ most → ltb w least || ltb most w ≡ false
inside w least most h g = rw (le-ltb w least h, le-ltb most w g)

either : (a : Bool) → a || true ≡ true
either true = refl
either false = refl

outside : (w least most : ℕ) → (w < least) ⊎ (most < w) → ltb w least || ltb most w ≡ true
outside w least most h = ⊎_elim (λ (g : w < least). rw (lt-ltb w least g)) (λ (g : most < w). rw (lt-ltb most w g) (either (ltb w least))) h

-- the versions that are known are those from 1 to 2
known_range : (v : ℕ) → ltb v 1 || ltb 2 v ≡ not (is_known v)
known_range zero = refl
known_range (suc zero) = refl
known_range (suc (suc zero)) = refl
known_range (suc (suc (suc n))) =
    let v : ℕ = suc (suc (suc n)) in
    rw (le-ltb v 1 (omega arith), lt-ltb 2 v (omega arith), ne_eqb v 1 (λ e. omega arith), ne_eqb v 2 (λ e. omega arith))

-- ---- the length of the largest job

pub state-most : (version : ℕ) → state_bytes version ≤ 20
state-most version = (elim (eqb version 1) as (λ t. cond t 16 20 ≤ 20) [ true ↦ omega arith | false ↦ omega arith ])

pub length_most : (version count : ℕ) → count ≤ most_job_states → length_of version count ≤ length_of 2 most_job_states
length_most version count h = omega (arith, mul-le-mul_right count (state-most version))

-- ---- each departure, where those before it are none

module _ (bytes : List ℕ) where
  abbrev len : ℕ
  len = length bytes

  pub found-mark : alike mark bytes < min 3 len → damage_of bytes ≡ wrong Mark (alike mark bytes)
  unfolding damage_of
  found-mark h = rw (lt-ltb (alike mark bytes) 3 (omega arith), le-ltb len (alike mark bytes + 1) (omega arith))

  -- the file ends in the mark, or the mark is right
  module _ (h : min 3 len ≤ alike mark bytes) where
    marked-sound : 3 ≤ alike mark bytes → mark_found bytes ≡ sound
    marked-sound g = rw (le-ltb (alike mark bytes) 3 g)

    pub found-short : len < 5 → damage_of bytes ≡ wrong Length len
    unfolding damage_of
    found-short l = ⊎_elim
        (λ (g : 3 ≤ alike mark bytes). rw (marked-sound g, lt-ltb len 5 l))
        (λ (g : alike mark bytes < 3). rw (lt-ltb (alike mark bytes) 3 g, lt-ltb len (alike mark bytes + 1) (omega arith)))
        (le_or_lt 3 (alike mark bytes))

    module _ (five : 5 ≤ len) where
      marked : mark_found bytes ≡ sound
      marked = marked-sound (omega arith)

      pub found-version : is_known (version_of bytes) ≡ false → damage_of bytes ≡ wrong Version 3
      unfolding damage_of
      found-version u = rw (marked, le-ltb len 5 five, known_range (version_of bytes), u)

      module _ (v : is_known (version_of bytes) ≡ true) where
        right : ltb (version_of bytes) 1 || ltb 2 (version_of bytes) ≡ false
        right = known_range (version_of bytes) ∙ ap not v

        pub found-short-count : len < 7 → damage_of bytes ≡ wrong Length len
        unfolding damage_of
        found-short-count l = rw (marked, le-ltb len 5 five, right, lt-ltb len 7 l)

        module _ (seven : 7 ≤ len) where
          pub found-count : most_job_states < count_of bytes → damage_of bytes ≡ wrong Count 5
          unfolding damage_of
          found-count g = rw (marked, le-ltb len 5 five, right, le-ltb len 7 seven, outside (count_of bytes) 0 most_job_states (inr g))

          module _ (few : count_of bytes ≤ most_job_states) where
            pub found-length : (len ≡ whole_of bytes → ⊥) → damage_of bytes ≡ wrong Length (min len (whole_of bytes))
            unfolding damage_of
            found-length d = rw (marked, le-ltb len 5 five, right, le-ltb len 7 seven, inside (count_of bytes) 0 most_job_states zero-le few, ne_eqb len (whole_of bytes) d)

            pub found_nothing : len ≡ whole_of bytes → damage_of bytes ≡ sound
            unfolding damage_of
            found_nothing e = rw (marked, le-ltb len 5 five, right, le-ltb len 7 seven, inside (count_of bytes) 0 most_job_states zero-le few, eq-eqb len (whole_of bytes) e)

-- ---- every file is damaged in one of these ways, or is a job

pub data Way (bytes : List ℕ) : Found → Type 0 where
  wrong_mark : alike mark bytes < 3 → alike mark bytes < length bytes → Way bytes (wrong Mark (alike mark bytes))
  ends_early : length bytes < 5 → min 3 (length bytes) ≤ alike mark bytes → Way bytes (wrong Length (length bytes))
  wrong_version : 3 ≤ alike mark bytes → 5 ≤ length bytes → is_known (version_of bytes) ≡ false → Way bytes (wrong Version 3)
  ends_in_count : 3 ≤ alike mark bytes → is_known (version_of bytes) ≡ true → 5 ≤ length bytes → length bytes < 7 → Way bytes (wrong Length (length bytes))
  wrong_count : 3 ≤ alike mark bytes → is_known (version_of bytes) ≡ true → 7 ≤ length bytes → most_job_states < count_of bytes → Way bytes (wrong Count 5)
  wrong_length : 3 ≤ alike mark bytes → is_known (version_of bytes) ≡ true → 7 ≤ length bytes → count_of bytes ≤ most_job_states → (length bytes ≡ whole_of bytes → ⊥)
      → Way bytes (wrong Length (min (length bytes) (whole_of bytes)))
  nowhere : IsJob bytes → Way bytes sound

module _ (bytes : List ℕ) where
  marked_is : 3 ≤ alike mark bytes → take 3 bytes ≡ mark
  marked_is h = alike_is mark bytes 3 h

  module _ (h : min 3 (length bytes) ≤ alike mark bytes) (five : 5 ≤ length bytes) where
    three : 3 ≤ alike mark bytes
    three = omega arith

    way-length : is_known (version_of bytes) ≡ true → 7 ≤ length bytes → count_of bytes ≤ most_job_states → Way bytes (damage_of bytes)
    way-length v seven few = ⊎_elim
        (λ (e : length bytes ≡ whole_of bytes). rw (found_nothing bytes h five v seven few e) (nowhere (record { marked = marked_is three; versioned = v; few = few; whole = e })))
        (λ (d : length bytes ≡ whole_of bytes → ⊥). rw (found-length bytes h five v seven few d) (wrong_length three v seven few d))
        (same_or_not (length bytes) (whole_of bytes))

    way-count : is_known (version_of bytes) ≡ true → Way bytes (damage_of bytes)
    way-count v = ⊎_elim
        (λ (seven : 7 ≤ length bytes). ⊎_elim
        (λ (few : count_of bytes ≤ most_job_states). way-length v seven few)
        (λ (g : most_job_states < count_of bytes). rw (found-count bytes h five v seven g) (wrong_count three v seven g))
        (le_or_lt (count_of bytes) most_job_states))
        (λ (l : length bytes < 7). rw (found-short-count bytes h five v l) (ends_in_count three v five l))
        (le_or_lt 7 (length bytes))

    way-version : Way bytes (damage_of bytes)
    way-version =
        (elim (is_known (version_of bytes)) as (λ b. is_known (version_of bytes) ≡ b → Way bytes (damage_of bytes)) [
          | true ↦ λ v. way-count v
          | false ↦ λ u. rw (found-version bytes h five u) (wrong_version three five u)
        ])
        refl

  pub way : Way bytes (damage_of bytes)
  way = ⊎_elim
      (λ (h : min 3 (length bytes) ≤ alike mark bytes). ⊎_elim
      (way-version h)
      (λ (l : length bytes < 5). rw (found-short bytes h l) (ends_early l h))
      (le_or_lt 5 (length bytes)))
      (λ (h : alike mark bytes < min 3 (length bytes)). rw (found-mark bytes h) (wrong_mark (omega arith) (omega arith)))
      (le_or_lt (min 3 (length bytes)) (alike mark bytes))

-- ---- both directions

pub job-sound : (bytes : List ℕ) → IsJob bytes → damage_of bytes ≡ sound
job-sound bytes j =
    let a : alike mark bytes ≡ 3 = is_alike mark bytes j.marked in
    let h : min 3 (length bytes) ≤ alike mark bytes = omega arith in
    found_nothing bytes h (omega (arith, j.whole)) j.versioned (omega (arith, j.whole)) j.few j.whole

abbrev JobWhere : List ℕ → Found → Type 0
JobWhere bytes (Ok none) = IsJob bytes
JobWhere bytes (Err w) = Unit {0}

way-job : (bytes : List ℕ) (f : Found) → Way bytes f → JobWhere bytes f
way-job bytes f (wrong_mark h g) = tt
way-job bytes f (ends_early l h) = tt
way-job bytes f (wrong_version m l d) = tt
way-job bytes f (ends_in_count m v l g) = tt
way-job bytes f (wrong_count m v l g) = tt
way-job bytes f (wrong_length m v l g d) = tt
way-job bytes f (nowhere j) = j

pub sound-job : (bytes : List ℕ) → damage_of bytes ≡ sound → IsJob bytes
sound-job bytes e = subst (JobWhere bytes) e (way-job bytes (damage_of bytes) (way bytes))

-- ---- one after the other: the first of mark, version and count that is found is told, and where that is nothing the length

first_told : (m v k l : Found) → else_found (result_and (result_and m v) k) l ≡ else_found m (else_found v (else_found k l))
first_told (Ok none) (Ok also) k l = refl
first_told (Ok none) (Err w) k l = refl
first_told (Err w) v k l = refl

last-sound : (a k : Found) → sound ≡ result_and a k → sound ≡ k
last-sound (Ok none) k e = e
last-sound (Err w) k e = absurd (let z : ◌≡◌ {A = ℕ} 0 1 = cc in omega arith)

none_wrong : (a b : Bool) (f : Found) (what : Damage) (at : ℕ) → cond a f (cond b (wrong what at) sound) ≡ sound → (f ≡ sound) ⊎ (b ≡ false)
none_wrong true b f what at e = inl e
none_wrong false true f what at e = absurd (let z : ◌≡◌ {A = ℕ} 0 1 = cc in omega arith)
none_wrong false false f what at e = inr refl

counted-few : (bytes : List ℕ) → sound ≡ word_found 5 0 most_job_states Count bytes → count_of bytes ≤ most_job_states
counted-few bytes e = ⊎_elim
    (λ (f : wrong Length (length bytes) ≡ sound). absurd (let z : ◌≡◌ {A = ℕ} 0 1 = cc in omega arith))
    (λ (f : ltb (count_of bytes) 0 || ltb most_job_states (count_of bytes) ≡ false). ltb-false most_job_states (count_of bytes) (neither (ltb (count_of bytes) 0) (ltb most_job_states (count_of bytes)) f).1)
    (none_wrong (ltb (length bytes) 7) (ltb (count_of bytes) 0 || ltb most_job_states (count_of bytes)) (wrong Length (length bytes)) Count 5 (sym e))

-- what is found of the three, joined
module _ (bytes : List ℕ) (m v k a : Found) (em : m ≡ mark_found bytes) (ev : v ≡ word_found 3 1 2 Version bytes)
    (ek : k ≡ word_found 5 0 most_job_states Count bytes) (ea : a ≡ result_and m v) where
  joined : else_found (result_and a k) (length_found bytes) ≡ damage_of bytes
  unfolding damage_of
  joined = rw (ea, em, ev, ek) (first_told (mark_found bytes) (word_found 3 1 2 Version bytes) (word_found 5 0 most_job_states Count bytes) (length_found bytes))

  pub first-told : (w : Wrong) → Err w ≡ result_and a k → Err w ≡ damage_of bytes
  first-told w e = ap (λ (f : Found). else_found f (length_found bytes)) e ∙ joined

  pub length-told : sound ≡ result_and a k → length_found bytes ≡ damage_of bytes
  length-told e = ap (λ (f : Found). else_found f (length_found bytes)) e ∙ joined

  pub joined-few : sound ≡ result_and a k → count_of bytes ≤ most_job_states
  joined-few e = counted-few bytes (last-sound a k e ∙ ek)

-- ---- what the readers of the parts answer

module _ (bytes : List ℕ) where
  pub mark_wrong : (n : ℕ) (r : Found) → n ≡ alike mark bytes → n < 3 → r ≡ found_to (n + 1) bytes (wrong Mark n) → r ≡ mark_found bytes
  mark_wrong n r e h q = q ∙ rw (e, lt-ltb (alike mark bytes) 3 (omega arith))

  pub mark-sound : (n : ℕ) → n ≡ alike mark bytes → 3 ≤ n → sound ≡ mark_found bytes
  mark-sound n e h = rw (le-ltb (alike mark bytes) 3 (omega arith))

  module _ (at least most : ℕ) (what : Damage) (w : ℕ) (r : Found) (e : w ≡ word_at bytes at) where
    pub word_wrong : ltb w least || ltb most w ≡ true → r ≡ found_to (at + 2) bytes (wrong what at) → r ≡ word_found at least most what bytes
    word_wrong t q = q ∙ rw (rw e at t)

    pub word_sound : ltb w least || ltb most w ≡ false → r ≡ found_to (at + 2) bytes sound → r ≡ word_found at least most what bytes
    word_sound t q = q ∙ rw (rw e at t)

  -- of the version and the number of states that are read, and the bytes of a state
  module _ (v w n : ℕ) (a : v ≡ version_of bytes) (b : w ≡ state_bytes v) (e : n ≡ count_of bytes) where
    whole_is : 15 + w * n ≡ whole_of bytes
    whole_is = rw (b, a, e)

    pub length-right : length bytes ≡ 15 + w * n → sound ≡ length_found bytes
    length-right h = rw (eq-eqb (length bytes) (whole_of bytes) (h ∙ whole_is))

    pub length_wrong : (length bytes ≡ 15 + w * n → ⊥) → (r : ℕ) → r ≡ min (length bytes) (15 + w * n) → wrong Length r ≡ length_found bytes
    length_wrong d r q = rw (ne_eqb (length bytes) (whole_of bytes) (λ h. d (h ∙ sym whole_is)), q, whole_is)
