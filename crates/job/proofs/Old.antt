-- The verdict on a job while 9 was the number of every damage is the old number of the verdict now, and all else is as it was.
use mathlib.Core.Path.{◌≡◌, refl, sym, ap, ◌∙◌}
use mathlib.Core.Bool.{Bool, true, false, not, cond}
use mathlib.Core.Logic.{◌⊎◌, inl, inr, ⊎_elim}
use mathlib.Core.List.{List, [], ◌∷◌}
use Prim.Native.Nat.{ℕ, zero, suc}
use native.Mathlib.Omega.{arith}
use lib.Dec.{ltb, eqb}
use lib.ListN.{length}
use borrow.Author.Tests.{eq-eqb, le-ltb, eqb-true, ltb-false}
use Rattle.lists.specs.Sizes.{most_job_states}
use Rattle.lists.specs.Answers.{Answer, given, answer_of}
use Rattle.lists.specs.Bytes.{starts_with}
use Rattle.lists.specs.Refusals.{or_else}
use Rattle.lists.specs.Totals.{total}
use Rattle.lists.proofs.Fronts.{starts_is, is_starts}
use Rattle.duration.specs.Promise.{work_of, Answers, Says}
use Rattle.job.specs.declared.Damage.{Damage}
use Rattle.job.specs.declared.Damage.TheVariants.{Mark, Version, Count, Length}
use Rattle.std.specs.Prelude.{Result, Ok, Err}
use Rattle.job.specs.declared.Done.{Done}
use Rattle.job.specs.declared.Failure.{Failure}
use Rattle.job.specs.Format.{mark, version_of, is_known, count_of, whole_of, IsJob, Job, job_of}
use Rattle.job.specs.Damage.{Found, sound, damage_of, damage_number, is_damage, old_number}
use Rattle.job.specs.Promise.{answered, job_fit, job_refusal, unless_found, behind, JobSaysAfter}
use Rattle.job.specs.Old.{format_refusal, found_number, OldSaysAfter, old_answer}
use Rattle.job.proofs.Damages.{job-sound, sound-job}
use Rattle.job.proofs.Answers.{damage_leaves}
use Rattle.job.proofs.Telling.{job-none}

-- ---- the old verdict on the format: 9 exactly where the bytes are no job

job-accepted : (bytes : List ℕ) → IsJob bytes → format_refusal bytes ≡ 0
unfolding format_refusal
job-accepted bytes j =
    rw (is_starts mark bytes j.marked, j.versioned, le-ltb most_job_states (count_of bytes) j.few, eq-eqb (length bytes) (whole_of bytes) j.whole)

passed : (b : Bool) (k : ℕ) → ◌≡◌ {A = ℕ} (cond b 9 k) 0 → (b ≡ false) × (k ≡ 0)
passed true k e = absurd (omega arith)
passed false k e = (refl, e)

is_so : (b : Bool) → not b ≡ false → b ≡ true
is_so true e = refl
is_so false e = sym e

accepted-job : (bytes : List ℕ) → format_refusal bytes ≡ 0 → IsJob bytes
unfolding format_refusal
accepted-job bytes e =
    let a = passed (not (starts_with mark bytes)) _ e in
    let b = passed (not (is_known (version_of bytes))) _ a.1 in
    let c = passed (ltb most_job_states (count_of bytes)) _ b.1 in
    let d = passed (not (eqb (length bytes) (whole_of bytes))) 0 c.1 in
    record {
      marked = starts_is mark bytes (is_so _ a.0);
      versioned = is_so _ b.0;
      few = ltb-false most_job_states (count_of bytes) c.0;
      whole = eqb-true (length bytes) (whole_of bytes) (is_so _ d.0);
    }

none_or_9 : (a b c d : Bool) → (◌≡◌ {A = ℕ} (cond a 9 (cond b 9 (cond c 9 (cond d 9 0)))) 0) ⊎ (◌≡◌ {A = ℕ} (cond a 9 (cond b 9 (cond c 9 (cond d 9 0)))) 9)
none_or_9 true b c d = inr refl
none_or_9 false true c d = inr refl
none_or_9 false false true d = inr refl
none_or_9 false false false true = inr refl
none_or_9 false false false false = inl refl

refusal_is : (bytes : List ℕ) → (format_refusal bytes ≡ 0) ⊎ (format_refusal bytes ≡ 9)
unfolding format_refusal
refusal_is bytes = none_or_9 (not (starts_with mark bytes)) (not (is_known (version_of bytes))) (ltb most_job_states (count_of bytes)) (not (eqb (length bytes) (whole_of bytes)))

no_job_9 : (bytes : List ℕ) → (IsJob bytes → ⊥) → format_refusal bytes ≡ 9
no_job_9 bytes n = ⊎_elim (λ (e : format_refusal bytes ≡ 0). absurd (n (accepted-job bytes e))) (λ (e : format_refusal bytes ≡ 9). e) (refusal_is bytes)

-- ---- the old number

module _ (k : ℕ) (t : Bool) (e : t ≡ is_damage k) where
  pub old_damage_is : t ≡ true → 9 ≡ old_number k
  unfolding old_number
  old_damage_is q = rw (sym e ∙ q)

  pub old_stays : t ≡ false → k ≡ old_number k
  unfolding old_number
  old_stays q = rw (sym e ∙ q)

-- of what is found
old_damage : (what : Damage) → old_number (damage_number what) ≡ 9
unfolding old_number
old_damage Mark = refl
old_damage Version = refl
old_damage Count = refl
old_damage Length = refl

-- on every list of bytes
pub old_verdict : (bytes : List ℕ) → format_refusal bytes ≡ old_number (found_number (damage_of bytes))
unfolding old_number
old_verdict bytes =
    (elim (damage_of bytes) as (λ f. damage_of bytes ≡ f → format_refusal bytes ≡ old_number (found_number f)) [
      | Ok none ↦ λ e. job-accepted bytes (sound-job bytes e)
      | Err w ↦ λ e. no_job_9 bytes (λ j. let z : ◌≡◌ {A = Found} sound (Err w) = sym (job-sound bytes j) ∙ e in let n : ◌≡◌ {A = ℕ} 0 1 = cc in omega arith) ∙ sym (old_damage w.damage)
    ])
    refl

-- ---- the whole outcome

module _ (values new : List ℕ) (n : ℕ) (out work : List ℕ) (a : Answer) (out' work' : List ℕ) where
  -- a number that is no damage's
  old_refused : (k : ℕ) → is_damage k ≡ false → Answers (answer_of k values) new n out work a out' work' → Says k values new n out work (old_answer a) out' work'
  old_refused k e f =
      record {
        answer = ap old_answer f.answer ∙ ap (λ (m : ℕ). record { number = m; values = given k values []; place = [] }) (sym (old_stays k (is_damage k) refl e));
        output = f.output;
        workspace = f.workspace;
      }

  -- a damage
  old_damaged : (what : Damage) (at : ℕ) → Answers (record { number = damage_number what; values = []; place = at ∷ [] }) new n out work a out' work' → Says 9 values new n out work (old_answer a) out' work'
  unfolding work_of
  old_damaged what at f =
      let l = damage_leaves what new out n work in
      record {
        answer = ap old_answer f.answer ∙ ap (λ (m : ℕ). record { number = m; values = []; place = [] }) (old_damage what);
        output = f.output ∙ sym l.0;
        workspace = f.workspace ∙ sym l.1;
      }

  -- of any answer behind what is found
  old_found : (k : ℕ) (f : Found) (q : ℕ) → is_damage k ≡ false → is_damage q ≡ false → Answers (behind k (unless_found f (answer_of q values))) new n out work a out' work'
      → Says (or_else k (or_else (old_number (found_number f)) q)) values new n out work (old_answer a) out' work'
  unfolding old_number
  old_found zero (Ok none) q e h s = old_refused q h s
  old_found zero (Err w) q e h s = rw (old_damage w.damage) (old_damaged w.damage w.place s)
  old_found (suc k) f q e h s = old_refused (suc k) e s

-- what a program sees that knows 9 alone is what it saw: states, durations and all refusals behind the format are as they were
pub old_says : (k : ℕ) → is_damage k ≡ false → (bytes out work : List ℕ) (r : Result Done Failure) (out' work' : List ℕ) → JobSaysAfter k bytes out work r out' work' → OldSaysAfter k bytes out work (old_answer (answered r)) out' work'
old_says k e bytes out work r out' work' s =
    let j : Job = job_of bytes in
    let values : List ℕ = length j.means ∷ total (job_fit j).durations ∷ (job_fit j).changes ∷ [] in
    rw (old_verdict bytes) (old_found values (job_fit j).durations (length j.means) out work (answered r) out' work' k (damage_of bytes) (job_refusal j out work) e (job-none j out work) s)
