-- The ways through a job.
use mathlib.Core.Path.{◌≡◌, refl, sym, ap, ◌∙◌}
use mathlib.Core.List.{List, [], ◌∷◌, ◌++◌}
use Prim.Native.Nat.{ℕ, ◌^◌, ◌≤◌}
use native.Mathlib.Omega.{arith}
use lib.ListN.{length, take, drop, length-append}
use lib.Seq.{take_at}
use Rattle.lists.specs.Sizes.{most_frames, most_job_states}
use Rattle.lists.specs.Totals.{total}
use Rattle.lists.proofs.Sums.{total-whole}
use Rattle.std.specs.Prelude.{Result, Ok, Err}
use Rattle.lists.specs.declared.Refusal.{Refusal}
use Rattle.lists.specs.Ends.{counted}
use Rattle.lists.specs.Refusals.{number_of}
use Rattle.duration.specs.Speed.{refusal_at}
use Rattle.lists.specs.Answers.{Answer, accepting, refusing, written}
use Rattle.duration.specs.Promise.{work_of, early_refusal, Says}
use Rattle.duration.specs.Shortest.{refusal_of_shortest}
use Rattle.duration.proofs.Shortest.{shortest-taken}
use Rattle.lists.proofs.Answers.{refused, refused_is, accepted_is}
use Rattle.duration.proofs.Refusals.{fitting}
use Rattle.lists.proofs.Refusals.{or_none}
use Rattle.job.specs.declared.Damage.{Damage}
use Rattle.job.specs.declared.Damage.TheVariants.{Mark, Version, Count, Length}
use Rattle.job.specs.declared.Failure.TheVariants.{Damaged, Refused}
use Rattle.job.specs.Format.{count_of, Job, job_states, job_at, job_of}
use Rattle.job.specs.Damage.{sound, wrong, damage_of, damage_number}
use Rattle.job.specs.Inner.Reading.{StatesFitted}
use Rattle.job.specs.Promise.{done as done_with, job_fit, job_refusal, JobSays}
use Rattle.job.proofs.Damages.{sound-job}
use Rattle.job.proofs.Pairs.{floats-long}
use Rattle.job.proofs.Frames.{Bounded, speed-bounded}

-- ---- other values with the same refusal, and with none

module _ (k : ℕ) (values new : List ℕ) (n : ℕ) (out work out' work' : List ℕ) (c : ℕ) where
  says-refused : (m : ℕ) → Says k (c ∷ []) new n out work (refusing m) out' work' → Says k values new n out work (refusing m) out' work'
  says-refused m f =
      let s = refused_is m k c [] f.answer in
      record { answer = ap refusing (sym s.0) ∙ refused k values s.1; output = f.output; workspace = f.workspace }

  says-accepted : (a b : Answer) → k ≡ 0 → a ≡ accepting values → Says k (c ∷ []) new n out work b out' work' → Says k values new n out work a out' work'
  says-accepted a b z e f = record { answer = e ∙ rw z; output = f.output; workspace = f.workspace }

-- ---- durations that `create` does not refuse, at the front of its output

module _ (j : Job) (out work out' : List ℕ) (z : job_refusal j out work ≡ 0) (o : out' ≡ written (job_refusal j out work) (job_fit j).durations out) where
  none : (early_refusal (job_states j) out work ≡ 0) × (refusal_at (job_states j) j.speed ≡ 0)
  none = or_none (early_refusal (job_states j) out work) (refusal_at (job_states j) j.speed) z

  pub fit-bounded : Bounded (length j.means) (job_fit j)
  fit-bounded =
      let e = or_none _ (refusal_of_shortest j.shortest) none.0 in
      speed-bounded (job_states j) (fitting _ _ _ _ _ e.0).shortest (shortest-taken j.shortest e.1).few j.speed none.1

  out_is : out' ≡ (job_fit j).durations ++ drop (length (job_fit j).durations) out
  out_is = o ∙ ap (λ (k : ℕ). written k (job_fit j).durations out) z

  pub fit-room : length j.means ≤ length out'
  fit-room = rw out_is (simp length-append (omega (arith, fit-bounded.count)))

  pub fit-taken : take (length j.means) out' ≡ (job_fit j).durations
  fit-taken = ap (take (length j.means)) out_is ∙ take_at (job_fit j).durations (drop (length (job_fit j).durations) out) (length j.means) fit-bounded.count

-- ---- a job that is damaged

-- its number leaves both lists as they were
pub damage_leaves : (what : Damage) (new out : List ℕ) (n : ℕ) (work : List ℕ) → (out ≡ written (damage_number what) new out) × (work ≡ work_of (damage_number what) n work)
unfolding work_of
damage_leaves Mark new out n work = (refl, refl)
damage_leaves Version new out n work = (refl, refl)
damage_leaves Count new out n work = (refl, refl)
damage_leaves Length new out n work = (refl, refl)

pub damaged_so : (bytes out work : List ℕ) (what : Damage) (at : ℕ) → damage_of bytes ≡ wrong what at → JobSays bytes out work (Err (Damaged what at)) out work
damaged_so bytes out work what at e =
    let j : Job = job_of bytes in
    let l = damage_leaves what (job_fit j).durations out (length j.means) work in
    rw e (record { answer = refl; output = l.0; workspace = l.1 })

-- ---- one with which nothing is wrong, of s states

module _ (bytes : List ℕ) (s : ℕ) (fine : damage_of bytes ≡ sound) (count_is : s ≡ count_of bytes) where
  pub few-states : s ≤ most_job_states
  few-states = rw count_is (sound-job bytes fine).few

  abbrev j : Job
  j = job_at bytes s

  long : length j.means ≡ s
  long = floats-long bytes 15 _ s

  module _ (out work : List ℕ) (r : Result ℕ Refusal) (out' work' : List ℕ) (f : StatesFitted j out work r out' work') where
    abbrev k : ℕ
    k = job_refusal j out work

    pub job-refused : (e : Refusal) → r ≡ Err e → JobSays bytes out work (Err (Refused e)) out' work'
    job-refused e d = rw (fine, ← count_is) (says-refused k _ (job_fit j).durations (length j.means) out work out' work' _ (number_of e) (rw d at f))

    -- accepted, with c changes
    module _ (c : ℕ) (d : r ≡ Ok c) where
      done : (k ≡ 0) × (c ∷ [] ≡ (job_fit j).changes ∷ [])
      done = accepted_is (counted (Ok c)) k _ (sym (ap counted d) ∙ f.answer) refl

      pub job-room : s ≤ length out'
      job-room = rw long at (fit-room j out work out' done.0 f.output)

      module _ (frames : ℕ) (q : frames ≡ total (take (2 ^ 32) (take s out'))) where
        bounded : Bounded (length j.means) (job_fit j)
        bounded = fit-bounded j out work out' done.0 f.output

        frames_is : frames ≡ total (job_fit j).durations
        frames_is =
            let t : take s out' ≡ (job_fit j).durations = rw long at (fit-taken j out work out' done.0 f.output) in
            let l : length (job_fit j).durations ≤ 4294967296 = omega (arith, bounded.count, long, few-states) in
            q ∙ rw t (total-whole (job_fit j).durations l)

        pub job-few : frames ≤ most_frames
        job-few = rw frames_is bounded.few

        pub job-done : JobSays bytes out work (done_with s frames c) out' work'
        job-done =
            let v = done.1 in
            let u : c ≡ (job_fit j).changes = cc in
            rw (fine, ← count_is)
            (says-accepted k (length j.means ∷ total (job_fit j).durations ∷ (job_fit j).changes ∷ []) (job_fit j).durations (length j.means) out work out' work' _ (accepting (s ∷ frames ∷ c ∷ [])) (counted r) done.0 (rw (long, frames_is, u)) f)
