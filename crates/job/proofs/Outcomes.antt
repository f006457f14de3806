-- What the promise says: two outcomes of one job are equal; a damaged file is told so, at a place that is right, and nothing changes; a job comes to what `create` does.
use mathlib.Core.Path.{◌≡◌, refl, sym, ap, ◌∙◌}
use mathlib.Core.Bool.{cond}
use mathlib.Core.List.{List, [], ◌∷◌}
use Prim.Native.Nat.{ℕ, zero, suc, ◌≤◌}
use native.Mathlib.Omega.{arith}
use lib.Dec.{eqb}
use lib.ListN.{length, take}
use Rattle.std.specs.Prelude.{Result, Ok, Err}
use Rattle.lists.specs.declared.Refusal.{Refusal}
use Rattle.lists.specs.Ends.{counted}
use Rattle.lists.proofs.Ends.{number-one}
use Rattle.duration.specs.Promise.{SpeedSays}
use Rattle.lists.specs.Answers.{accepting, refusing_at, answer_of}
use Rattle.lists.proofs.Answers.{Same, same, accepted_is}
use Rattle.job.specs.declared.Damage.{Damage}
use Rattle.job.specs.declared.Damage.TheVariants.{Mark, Version, Count, Length}
use Rattle.job.specs.declared.Done.{Done}
use Rattle.job.specs.declared.Failure.{Failure}
use Rattle.job.specs.declared.finding.Wrong.{Wrong}
use Rattle.job.specs.declared.Failure.TheVariants.{Damaged, Refused}
use Rattle.job.specs.Format.{IsJob, Job, job_states, job_of}
use Rattle.job.specs.Damage.{Found, sound, wrong, damage_of, damage_number}
use Rattle.job.specs.Places.{PlaceRight}
use Rattle.job.specs.Promise.{answered, done, job_fit, job_refusal, unless_found, behind, JobSaysAfter, JobSays}
use Rattle.job.proofs.Damages.{job-sound, sound-job}
use Rattle.job.proofs.Places.{place-right}
use Rattle.job.proofs.Answers.{fit-room, fit-taken, damaged_so}

-- ---- one outcome

kind_of : ℕ → Damage
kind_of k = cond (eqb k 12) Mark (cond (eqb k 13) Version (cond (eqb k 14) Count Length))

kind_back : (what : Damage) → kind_of (damage_number what) ≡ what
unfolding kind_of
kind_back Mark = refl
kind_back Version = refl
kind_back Count = refl
kind_back Length = refl

damage_one : (v w : Damage) → damage_number v ≡ damage_number w → v ≡ w
damage_one v w e = sym (kind_back v) ∙ ap kind_of e ∙ kind_back w

same-done : (a b : Done) → a.states ≡ b.states → a.frames ≡ b.frames → a.changes ≡ b.changes → ◌≡◌ {A = Result Done Failure} (Ok a) (Ok b)
same-done a b s f c = ap (λ (n : ℕ). done n a.frames a.changes) s ∙ ap (λ (n : ℕ). done b.states n a.changes) f ∙ ap (λ (n : ℕ). done b.states b.frames n) c

done_of : (a b : Done) → a.states ∷ a.frames ∷ a.changes ∷ [] ≡ b.states ∷ b.frames ∷ b.changes ∷ [] → ◌≡◌ {A = Result Done Failure} (Ok a) (Ok b)
done_of a b e =
    let s : a.states ≡ b.states = cc in
    let f : a.frames ≡ b.frames = cc in
    let c : a.changes ≡ b.changes = cc in
    same-done a b s f c

pub answered-one : (r s : Result Done Failure) → Same (answered r) (answered s) → r ≡ s
answered-one (Ok a) (Ok b) e = done_of a b e.1
answered-one (Ok a) (Err (Damaged w p)) e = absurd (let q = e.2 in let z : ◌≡◌ {A = ℕ} 0 1 = cc in omega arith)
answered-one (Ok a) (Err (Refused k)) e = absurd (let q = e.1 in let z : ◌≡◌ {A = ℕ} 0 1 = cc in omega arith)
answered-one (Err (Damaged v p)) (Ok b) e = absurd (let q = e.2 in let z : ◌≡◌ {A = ℕ} 0 1 = cc in omega arith)
answered-one (Err (Damaged v p)) (Err (Damaged w q)) e =
    let u = e.2 in
    let z : p ≡ q = cc in
    rw (damage_one v w e.0, z)
answered-one (Err (Damaged v p)) (Err (Refused k)) e = absurd (let q = e.2 in let z : ◌≡◌ {A = ℕ} 0 1 = cc in omega arith)
answered-one (Err (Refused k)) (Ok b) e = absurd (let q = e.1 in let z : ◌≡◌ {A = ℕ} 0 1 = cc in omega arith)
answered-one (Err (Refused k)) (Err (Damaged w p)) e = absurd (let q = e.2 in let z : ◌≡◌ {A = ℕ} 0 1 = cc in omega arith)
answered-one (Err (Refused k)) (Err (Refused l)) e = ap (λ (x : Refusal). Err (Refused x)) (number-one k l e.0)

pub job-after-one : (k : ℕ) (bytes out work o₁ o₂ w₁ w₂ : List ℕ) (r s : Result Done Failure) → JobSaysAfter k bytes out work r o₁ w₁ → JobSaysAfter k bytes out work s o₂ w₂ → (r ≡ s) × (o₁ ≡ o₂) × (w₁ ≡ w₂)
job-after-one k bytes out work o₁ o₂ w₁ w₂ r s f g =
    let e : answered r ≡ answered s = f.answer ∙ sym g.answer in
    (answered-one r s (same e), f.output ∙ sym g.output, f.workspace ∙ sym g.workspace)

pub job_one : (bytes out work o₁ o₂ w₁ w₂ : List ℕ) (r s : Result Done Failure) → JobSays bytes out work r o₁ w₁ → JobSays bytes out work s o₂ w₂ → (r ≡ s) × (o₁ ≡ o₂) × (w₁ ≡ w₂)
job_one = job-after-one 0

-- ---- which answer comes of what is found

wrong_of : (w : Wrong) (what : Damage) (at : ℕ) → w.damage ≡ what → w.place ≡ at → Err w ≡ wrong what at
wrong_of w what at d p = ap (λ (x : Damage). wrong x w.place) d ∙ ap (wrong what) p

pub told-found : (k : ℕ) (f : Found) (q : ℕ) (values : List ℕ) (what : Damage) (at : ℕ) → refusing_at (damage_number what) at ≡ behind k (unless_found f (answer_of q values)) → f ≡ wrong what at
told-found (suc k) f q values what at e = absurd (let u = (same e).2 in let z : ◌≡◌ {A = ℕ} 0 1 = cc in omega arith)
told-found zero (Ok none) q values what at e = absurd (let u = (same e).2 in let z : ◌≡◌ {A = ℕ} 0 1 = cc in omega arith)
told-found zero (Err w) q values what at e =
    let u = (same e).2 in
    let z : w.place ≡ at = cc in
    wrong_of w what at (damage_one w.damage what (sym (same e).0)) z

accepted-found : (k : ℕ) (f : Found) (q : ℕ) (values xs : List ℕ) → accepting xs ≡ behind k (unless_found f (answer_of q values)) → (k ≡ 0) × (f ≡ sound) × (q ≡ 0) × (xs ≡ values)
accepted-found zero (Ok none) q values xs e = let p = accepted_is (accepting xs) q values e refl in (refl, refl, p.0, p.1)
accepted-found zero (Err w) q values xs e = absurd (let u = (same e).2 in let z : ◌≡◌ {A = ℕ} 0 1 = cc in omega arith)
accepted-found (suc k) f q values xs e = absurd (omega (arith, (same e).0))

module _ (bytes out work : List ℕ) (r : Result Done Failure) (out' work' : List ℕ) (f : JobSays bytes out work r out' work') where
  -- a damaged file
  pub job-found : (what : Damage) (at : ℕ) → damage_of bytes ≡ wrong what at → (r ≡ Err (Damaged what at)) × (out' ≡ out) × (work' ≡ work)
  job-found what at e = job_one bytes out work out' out work' work r (Err (Damaged what at)) f (damaged_so bytes out work what at e)

  -- and the place that it is told is right
  pub job-told : (what : Damage) (at : ℕ) → r ≡ Err (Damaged what at) → (damage_of bytes ≡ wrong what at) × PlaceRight bytes what at
  job-told what at e =
      let d = told-found 0 (damage_of bytes) _ _ what at (sym (ap answered e) ∙ f.answer) in
      (d, place-right bytes what at d)

  -- what is accepted is a job
  pub job_is : (s frames c : ℕ) → r ≡ done s frames c → IsJob bytes
  job_is s frames c e = sound-job bytes (accepted-found 0 (damage_of bytes) (job_refusal (job_of bytes) out work) _ _ (sym (ap answered e) ∙ f.answer)).1

  -- and a job comes to what `create` does
  pub job_creates : IsJob bytes → (s : Result ℕ Refusal) (o w : List ℕ) → SpeedSays (job_states (job_of bytes)) (job_of bytes).speed out work s o w → ((answered r).number ≡ (counted s).number) × (out' ≡ o) × (work' ≡ w)
  job_creates j s o w g =
      let e : damage_of bytes ≡ sound = job-sound bytes j in
      let a = rw e at f.answer in
      let b = rw e at f.output in
      let c = rw e at f.workspace in
      ((same a).0 ∙ sym (same g.answer).0, b ∙ sym g.output, c ∙ sym g.workspace)

-- an accepted job: its states' durations stand at the front of the output
pub job-states : (k : ℕ) (bytes out work : List ℕ) (r : Result Done Failure) (s frames c : ℕ) (out' work' : List ℕ) → r ≡ done s frames c → JobSaysAfter k bytes out work r out' work' → (s ≤ length out') × (take s out' ≡ (job_fit (job_of bytes)).durations)
job-states k bytes out work r s frames c out' work' e f =
    let j : Job = job_of bytes in
    let p = accepted-found k (damage_of bytes) (job_refusal j out work) _ _ (sym (ap answered e) ∙ f.answer) in
    let v = p.3 in
    let q : s ≡ length j.means = cc in
    let o = rw (p.0, p.1) at f.output in
    rw q (fit-room j out work out' p.2 o, fit-taken j out work out' p.2 o)
