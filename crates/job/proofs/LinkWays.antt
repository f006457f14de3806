-- The ways through begin, part and end.
use mathlib.Core.Path.{◌≡◌, refl, sym, ap, ◌∙◌}
use mathlib.Core.Bool.{Bool, true, false, cond}
use mathlib.Core.List.{List, [], ◌∷◌, ◌++◌}
use Prim.Native.Nat.{ℕ, zero, suc, ◌+◌, ◌-◌, ◌≤◌, ◌<◌, min}
use native.Mathlib.Omega.{arith}
use borrow.Author.Tests.{lt-ltb}
use borrow.Rule.Slice.PartMut.{mid_of, put_mid}
use lib.Dec.{ltb}
use lib.ListN.{length, take, drop}
use lib.Seq.{sets}
use Rattle.lists.specs.Bytes.{bytes_of}
use Rattle.duration.specs.Promise.{work_of}
use Rattle.std.specs.Prelude.{Result, Ok, Err}
use Rattle.lists.specs.declared.Refusal.{Refusal}
use Rattle.lists.specs.Answers.{refusing, answer_of, written}
use Rattle.lists.specs.Refusals.{number_of, or_else}
use Rattle.lists.specs.Ends.{counted}
use Rattle.lists.proofs.Ends.{not_none, refuses, passed}
use Rattle.lists.proofs.Answers.{same, untouched}
use Rattle.job.specs.declared.Done.{Done}
use Rattle.job.specs.declared.Failure.{Failure}
use Rattle.job.specs.declared.Failure.TheVariants.{Refused}
use Rattle.job.specs.Promise.{JobSaysAfter, JobSays}
use Rattle.job.specs.Link.{head_bytes, link_room, link_bytes, stage, idle, under_way, stage_of, has_ended, came_in, begin_refusal, link_refusal}
use Rattle.job.specs.LinkPromise.{LinkBeginSays, LinkPartSays, LinkEndSays}
use Rattle.job.proofs.Memory.{long-enough, open_long, came-long, came-few, begun, ended, part-kept}

-- ---- the number of a refusal

pub short_6 : (link : List ℕ) → length link < link_bytes → 6 ≡ begin_refusal link
unfolding begin_refusal
short_6 link h = rw (lt-ltb (length link) link_bytes h)

pub as_begin : (link : List ℕ) (k : ℕ) → has_ended link ≡ false → k ≡ begin_refusal link → k ≡ link_refusal link
unfolding link_refusal
as_begin link k e q = rw e q

-- of how many bytes have come
pub not-came : (link : List ℕ) (d : Refusal) → number_of d ≡ link_refusal link → counted (Err d) ≡ answer_of (link_refusal link) ((stage_of link - 1) ∷ [])
not-came link d e = refuses d (link_refusal link) _ e

pub has-come : (link : List ℕ) (n : ℕ) → 0 ≡ link_refusal link → n ≡ stage_of link - 1 → counted (Ok n) ≡ answer_of (link_refusal link) ((stage_of link - 1) ∷ [])
has-come link n z e = rw (← z, e)

-- ---- refused

left_so : (d : Refusal) (n : ℕ) (new link : List ℕ) → number_of d ≡ n → link ≡ written n new link
left_so d n new link e = untouched n new link (not_none d n e)

pub begin-refused : (link : List ℕ) (d : Refusal) → number_of d ≡ begin_refusal link → LinkBeginSays link (Err d) link
begin-refused link d e = record { answer = e; memory = left_so d (begin_refusal link) (under_way []) link e }

-- the number that came_in refuses with
pub came-refused : (link : List ℕ) (d : Refusal) → counted (Err d) ≡ answer_of (link_refusal link) ((stage_of link - 1) ∷ []) → number_of d ≡ link_refusal link
came-refused link d e = (same e).0

pub part-refused : (link bytes : List ℕ) (d : Refusal) → number_of d ≡ link_refusal link → LinkPartSays link bytes (Err d) link
part-refused link bytes d e = record { answer = e; memory = left_so d (link_refusal link) (under_way (take link_room (came_in link ++ bytes))) link e }

-- neither 6 nor 11 clears the work space
work-left : (a b : Bool) (k n : ℕ) (work : List ℕ) → k ≡ or_else (cond a 11 0) (cond b 6 0) → (k ≡ 0 → ⊥) → work ≡ work_of k n work
unfolding work_of
work-left true b k n work e z = rw e
work-left false true k n work e z = rw e
work-left false false k n work e z = absurd (z e)

link_left : (link : List ℕ) (k n : ℕ) (work : List ℕ) → k ≡ link_refusal link → (k ≡ 0 → ⊥) → work ≡ work_of k n work
unfolding link_refusal begin_refusal
link_left link k n work e z = work-left (has_ended link) (ltb (length link) link_bytes) k n work e z

says-left : (k : ℕ) (d : Refusal) (bytes out work : List ℕ) → number_of d ≡ k → (k ≡ 0 → ⊥) → ((n : ℕ) → work ≡ work_of k n work) → JobSaysAfter k bytes out work (Err (Refused d)) out work
says-left zero d bytes out work e z w = absurd (z refl)
says-left (suc k) d bytes out work e z w = record { answer = ap refusing e; output = refl; workspace = w _ }

pub end_refused : (link out work : List ℕ) (d : Refusal) → number_of d ≡ link_refusal link → LinkEndSays link out work (Err (Refused d)) link out work
end_refused link out work d e =
    let k : ℕ = link_refusal link in
    let z : k ≡ 0 → ⊥ = not_none d k e in
    record { job = says-left k d (came_in link) out work e z (λ n. link_left link k n work refl z); memory = left_so d k idle link e }

-- ---- taken

as_written : (k : ℕ) (new link : List ℕ) → k ≡ 0 → written 0 new link ≡ written k new link
as_written k new link z = rw z

pub begin-taken : (link : List ℕ) (n : ℕ) (link' : List ℕ) → begin_refusal link ≡ 0 → n ≡ stage true 0 → link' ≡ sets link 0 (bytes_of head_bytes n) → LinkBeginSays link (Ok tt) link'
begin-taken link n link' z e q =
    let p : link' ≡ sets link 0 (bytes_of head_bytes 1) = rw e at q in
    record { answer = sym z; memory = p ∙ begun link (long-enough link z) ∙ as_written (begin_refusal link) (under_way []) link z }

module _ (link : List ℕ) (came : ℕ) (taken : counted (Ok came) ≡ answer_of (link_refusal link) ((stage_of link - 1) ∷ [])) where
  z : link_refusal link ≡ 0
  z = (passed (link_refusal link) (stage_of link - 1) came taken).0

  e : came ≡ stage_of link - 1
  e = sym (passed (link_refusal link) (stage_of link - 1) came taken).1

  -- where a part's bytes go, and where the job's end
  pub came-room : came ≤ link_room
  came-room = omega (arith, e, came-long link z, came-few link z)

  pub came-within : head_bytes + came ≤ length link
  came-within = omega (arith, came-room, open_long link z)

  pub part-taken : (bytes : List ℕ) (more n : ℕ) (w link' : List ℕ) → more ≡ min (length bytes) (link_room - came) → n ≡ stage true (came + more)
      → w ≡ sets (mid_of (head_bytes + came) (length link - (head_bytes + came)) link) 0 (take more bytes)
      → link' ≡ sets (put_mid (head_bytes + came) (length link - (head_bytes + came)) link w) 0 (bytes_of head_bytes n) → LinkPartSays link bytes (Ok tt) link'
  part-taken bytes more n w link' f g q p =
      let l : link' ≡ sets (put_mid (head_bytes + came) (length link - (head_bytes + came)) link w) 0 (bytes_of head_bytes (came + more + 1)) = rw g at p in
      record { answer = sym z; memory = l ∙ part-kept link bytes z came more e f w q ∙ as_written (link_refusal link) _ link z }

  pub end-taken : (out work : List ℕ) (r : Result Done Failure) (out' work' : List ℕ) (n : ℕ) (link' : List ℕ) → JobSays (take (head_bytes + came - head_bytes) (drop head_bytes link)) out work r out' work'
      → n ≡ stage false 0 → link' ≡ sets link 0 (bytes_of head_bytes n) → LinkEndSays link out work r link' out' work'
  unfolding came_in
  end-taken out work r out' work' n link' j g p =
      let l : link' ≡ sets link 0 idle = rw g at p in
      let k : head_bytes + came - head_bytes ≡ stage_of link - 1 = omega (arith, e) in
      let s : JobSays (came_in link) out work r out' work' = rw k at j in
      record { job = rw z s; memory = l ∙ ended link (open_long link z) ∙ as_written (link_refusal link) idle link z }
