-- Which numbers are a damage's: those of what is found, and no other number with which a job is refused. So a damage alone has a place.
use mathlib.Core.Path.{◌≡◌, refl, ap, ◌∙◌}
use mathlib.Core.Bool.{Bool, true, false, not, cond}
use mathlib.Core.List.{List}
use Prim.Native.Nat.{ℕ, zero, suc}
use native.Mathlib.Omega.{arith}
use lib.Dec.{leb, ltb, eqb}
use lib.ListN.{length, get_or}
use lib.Ieee.{Float, eq}
use Rattle.lists.specs.Sizes.{most_states, most_frames}
use Rattle.lists.specs.Answers.{refusing, answer_of}
use Rattle.lists.specs.Refusals.{number_of, or_else}
use Rattle.lists.specs.Totals.{total}
use Rattle.lists.proofs.Answers.{same}
use Rattle.floats.specs.Numbers.{one}
use Rattle.duration.specs.Estimate.{naturals}
use Rattle.duration.specs.Fit.{start_of, refusal_to}
use Rattle.duration.specs.Speed.{target_at, refusal_at}
use Rattle.duration.specs.Promise.{refusal_of_lists, early_refusal}
use Rattle.duration.specs.Shortest.{unfit, refusal_of_shortest}
use Rattle.steps.specs.Steps.{States, size, least}
use Rattle.job.specs.declared.Damage.{Damage}
use Rattle.job.specs.declared.Damage.TheVariants.{Mark, Version, Count, Length}
use Rattle.std.specs.Prelude.{Result, Ok, Err}
use Rattle.job.specs.declared.Done.{Done}
use Rattle.job.specs.declared.Failure.{Failure}
use Rattle.job.specs.declared.Failure.TheVariants.{Damaged, Refused}
use Rattle.job.specs.Format.{Job, job_states, job_of}
use Rattle.job.specs.Damage.{Found, damage_of, damage_number, is_damage}
use Rattle.job.specs.Places.{PlaceTold}
use Rattle.job.specs.Promise.{answered, job_refusal, unless_found, behind, JobSaysAfter}
use Rattle.job.specs.Link.{link_bytes, has_ended, begin_refusal, link_refusal}
use Rattle.job.proofs.Places.{place-right}
use Rattle.job.proofs.Outcomes.{told-found}

-- ---- a damage's

damage_is : (what : Damage) → is_damage (damage_number what) ≡ true
damage_is Mark = refl
damage_is Version = refl
damage_is Count = refl
damage_is Length = refl

-- ---- no damage's: what the fit refuses with, and a link before the job

cond-none : (b : Bool) (k l : ℕ) → is_damage k ≡ false → is_damage l ≡ false → is_damage (cond b k l) ≡ false
cond-none true k l h g = h
cond-none false k l h g = g

or_none : (k l : ℕ) → is_damage k ≡ false → is_damage l ≡ false → is_damage (or_else k l) ≡ false
or_none zero l h g = g
or_none (suc k) l h g = h

lists-none : (n v l o w : ℕ) → is_damage (refusal_of_lists n v l o w) ≡ false
unfolding refusal_of_lists
lists-none n v l o w =
    cond-none (ltb most_states n) 3 _ refl
    (cond-none (not (eqb v n)) 4 _ refl
    (cond-none (not (eqb l n)) 4 _ refl
    (cond-none (ltb o n) 6 _ refl
    (cond-none (ltb w n) 6 _ refl refl))))

shortest_none : (ls : List ℕ) → is_damage (refusal_of_shortest ls) ≡ false
unfolding refusal_of_shortest
shortest_none ls = cond-none (unfit ls) 15 0 refl refl

speed-none : (ss : States) (speed : Float) → is_damage (refusal_at ss speed) ≡ false
unfolding refusal_at refusal_to
speed-none ss speed =
    let t = target_at ss speed in
    cond-none (ltb most_frames (total (naturals ss))) 8 _ refl
    (cond-none (eq speed one) 0 _ refl
    (cond-none (eqb (size ss) 0) 0 _ refl
    (cond-none (ltb most_frames t) 7 _ refl
    (cond-none (leb t (least ss)) 0 _ refl
    (cond-none (ltb most_frames (total (start_of ss t))) 8 _ refl refl)))))

pub job-none : (j : Job) (out work : List ℕ) → is_damage (job_refusal j out work) ≡ false
job-none j out work =
    let ls = j.shortest in
    or_none (early_refusal (job_states j) out work) _
    (or_none (refusal_of_lists (length j.means) (length j.varis) (length ls) (length out) (length work)) (refusal_of_shortest ls) (lists-none _ _ _ _ _) (shortest_none ls))
    (speed-none (job_states j) j.speed)

link_number : (a b : Bool) → is_damage (or_else (cond a 11 0) (cond b 6 0)) ≡ false
link_number true b = refl
link_number false true = refl
link_number false false = refl

pub link_none : (link : List ℕ) → is_damage (link_refusal link) ≡ false
unfolding link_refusal begin_refusal
link_none link = link_number (has_ended link) (ltb (length link) link_bytes)

refused_none : (k : ℕ) (f : Found) (q : ℕ) (values : List ℕ) (n : ℕ) → is_damage k ≡ false → is_damage q ≡ false → refusing n ≡ behind k (unless_found f (answer_of q values)) → is_damage n ≡ false
refused_none zero (Ok none) q values n z h e = ap is_damage (same e).0 ∙ h
refused_none zero (Err w) q values n z h e = absurd (let u = (same e).2 in let y : ◌≡◌ {A = ℕ} 0 1 = cc in omega arith)
refused_none (suc k) f q values n z h e = ap is_damage (same e).0 ∙ z

-- ---- so a place is told of a damage and of nothing else

neither_so : {A : Type 0} (b : Bool) → b ≡ true → b ≡ false → A
neither_so b e f = absurd (let z : ◌≡◌ {A = ℕ} 0 1 = cc in omega arith)

-- of every outcome behind a number that is no damage's; `old` is what stood where the place goes
pub job_tells : (k : ℕ) → is_damage k ≡ false → (bytes out work : List ℕ) (r : Result Done Failure) (out' work' : List ℕ) → JobSaysAfter k bytes out work r out' work'
    → (old : ℕ) → PlaceTold bytes (answered r).number old (get_or (answered r).place 0 old)
job_tells k z bytes out work (Ok d) out' work' f old = record { kept = λ e. refl; told = λ e. neither_so false e refl }
job_tells k z bytes out work (Err (Damaged what at)) out' work' f old =
    record {
      kept = λ e. neither_so (is_damage (damage_number what)) (damage_is what) e;
      told = λ e. let d = told-found k (damage_of bytes) _ _ what at f.answer in record { what = what; is = refl; found = d; right = place-right bytes what at d };
    }
job_tells k z bytes out work (Err (Refused n)) out' work' f old =
    record {
      kept = λ e. refl;
      told = λ e. neither_so (is_damage (number_of n)) e (refused_none k (damage_of bytes) (job_refusal (job_of bytes) out work) _ (number_of n) z (job-none (job_of bytes) out work) f.answer);
    }
