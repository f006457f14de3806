-- However a job is cut, the serial link answers it as the whole file is answered; and after an end nothing but begin is taken.
use mathlib.Core.Path.{◌≡◌, refl, sym, ap, ◌∙◌}
use mathlib.Core.Bool.{true, false}
use mathlib.Core.Logic.{⊎_elim}
use mathlib.Core.List.{List, [], ◌∷◌, ◌++◌, append_assoc, append-nil, map, flatten}
use Prim.Native.Nat.{ℕ, zero, suc, ◌≤◌, ◌<◌, min}
use native.Mathlib.Omega.{arith}
use lib.ListN.{length, take, drop, length-take, take-append-drop}
use lib.Seq.{take_all, length-take-le}
use Rattle.lists.specs.Sizes.{most_job_states}
use Rattle.lists.specs.Bytes.{little, alike, word_at}
use Rattle.lists.proofs.Numbers.{le_or_lt}
use Rattle.lists.proofs.Fronts.{alike_same, part_same}
use Rattle.lists.proofs.Answers.{same, written-long}
use Rattle.lists.proofs.Bytes.{bytes-length}
use Rattle.duration.specs.Promise.{work_of}
use Rattle.job.specs.declared.Damage.{Damage}
use Rattle.job.specs.declared.Damage.TheVariants.{Mark, Length}
use Rattle.std.specs.Prelude.{Result, Ok, Err}
use Rattle.lists.specs.declared.Refusal.{Refusal}
use Rattle.lists.specs.declared.Refusal.TheVariants.{JobEnded}
use Rattle.lists.proofs.Ends.{refused-one, accepted_ok}
use Rattle.job.specs.declared.Done.{Done}
use Rattle.job.specs.declared.Failure.{Failure}
use Rattle.job.specs.declared.Failure.TheVariants.{Damaged, Refused}
use Rattle.job.specs.Format.{mark, version_of, is_known, count_of, whole_of}
use Rattle.job.specs.Damage.{Found, sound, wrong, damage_of}
use Rattle.job.specs.Places.{PlaceRight}
use Rattle.job.specs.Promise.{JobSays}
use Rattle.job.specs.Link.{head_bytes, link_room, link_bytes, idle, under_way, has_ended, came_in, link_refusal}
use Rattle.job.specs.LinkPromise.{LinkBeginSays, LinkPartSays, LinkEndSays}
use Rattle.job.specs.Linking.{Call, part_of, end_with, CallOutcome, taken, refused11, Calls, none, part_then, end_then, JobInParts, AsWhole}
use Rattle.job.proofs.Damages.{length_most, found-mark, found-version, found-count, found-length, Way, wrong_mark, ends_early, wrong_version, ends_in_count, wrong_count, wrong_length, nowhere, way, sound-job}
use Rattle.job.proofs.Answers.{damaged_so}
use Rattle.job.proofs.Outcomes.{answered-one, job_one, job-found, job-told}
use Rattle.job.proofs.Memory.{is_long, is_open, open_long, held-came, held_open, idle_ended, ended_11, open_0}

-- ---- the room is enough

-- a file that fills it: what is found of the file is found of the front that is kept
module _ (bytes : List ℕ) (h : link_room ≤ length bytes) where
  abbrev kept : List ℕ
  kept = take link_room bytes

  full : length kept ≡ link_room
  full = length-take-le link_room bytes h

  whole_below : count_of bytes ≤ most_job_states → whole_of bytes < link_room
  whole_below few = omega (arith, length_most (version_of bytes) (count_of bytes) few)

  joined : kept ++ drop link_room bytes ≡ bytes
  joined = take-append-drop link_room bytes

  kept-alike : alike mark kept ≡ alike mark bytes
  kept-alike = ap (alike mark) (sym (append-nil kept)) ∙ alike_same mark kept [] (drop link_room bytes) (omega (arith, full)) ∙ ap (alike mark) joined

  kept_word : (at : ℕ) → at ≤ 5 → word_at kept at ≡ word_at bytes at
  kept_word at g =
      ap (λ (l : List ℕ). word_at l at) (sym (append-nil kept))
      ∙ ap little (part_same kept [] (drop link_room bytes) at 2 (omega (arith, full)))
      ∙ ap (λ (l : List ℕ). word_at l at) joined

  kept-known : is_known (version_of kept) ≡ is_known (version_of bytes)
  kept-known = ap is_known (kept_word 3 (omega arith))

  kept_whole : whole_of kept ≡ whole_of bytes
  kept_whole = rw (kept_word 3 (omega arith), kept_word 5 (omega arith))

  way-kept : (f : Found) → Way bytes f → damage_of kept ≡ f
  way-kept f (wrong_mark m g) = found-mark kept (omega (arith, full, kept-alike)) ∙ ap (wrong Mark) kept-alike
  way-kept f (ends_early l m) = absurd (omega arith)
  way-kept f (wrong_version m l d) = found-version kept (omega (arith, kept-alike)) (omega (arith, full)) (kept-known ∙ d)
  way-kept f (ends_in_count m v l g) = absurd (omega arith)
  way-kept f (wrong_count m v l g) = found-count kept (omega (arith, kept-alike)) (omega (arith, full)) (kept-known ∙ v) (omega (arith, full)) (rw (kept_word 5 (omega arith)) g)
  way-kept f (wrong_length m v l g d) =
      let c : count_of kept ≡ count_of bytes = kept_word 5 (omega arith) in
      let b : whole_of bytes < link_room = whole_below g in
      let p : min (length kept) (whole_of kept) ≡ min (length bytes) (whole_of bytes) = omega (arith, full, kept_whole) in
      found-length kept (omega (arith, kept-alike)) (omega (arith, full)) (kept-known ∙ v) (omega (arith, full)) (rw c g) (λ e. omega (arith, full, kept_whole)) ∙ ap (wrong Length) p
  way-kept f (nowhere j) = absurd (omega (arith, j.whole, whole_below j.few))

  pub room-found : damage_of kept ≡ damage_of bytes
  room-found = way-kept (damage_of bytes) (way bytes)

  no_job : damage_of bytes ≡ sound → ⊥
  no_job e = let j = sound-job bytes e in omega (arith, j.whole, whole_below j.few)

  -- so both have one outcome
  module _ (out work : List ℕ) (r : Result Done Failure) (out' work' : List ℕ) where
    full-says : JobSays kept out work r out' work' → JobSays bytes out work r out' work'
    full-says s =
        (elim (damage_of bytes) as (λ f. damage_of bytes ≡ f → JobSays bytes out work r out' work') [
          | Ok u ↦ λ e. absurd (no_job e)
          | Err w ↦ λ e.
              let d = job-found kept out work r out' work' s w.damage w.place (room-found ∙ e) in
              rw (d.0, d.1, d.2) (damaged_so bytes out work w.damage w.place e)
        ])
        refl

    says-full : JobSays bytes out work r out' work' → JobSays kept out work r out' work'
    says-full s =
        (elim (damage_of bytes) as (λ f. damage_of bytes ≡ f → JobSays kept out work r out' work') [
          | Ok u ↦ λ e. absurd (no_job e)
          | Err w ↦ λ e.
              let d = job-found bytes out work r out' work' s w.damage w.place e in
              rw (d.0, d.1, d.2) (damaged_so kept out work w.damage w.place (room-found ∙ e))
        ])
        refl

-- a job's outcome is that of its first 20,496 bytes
module _ (bytes out work : List ℕ) (r : Result Done Failure) (out' work' : List ℕ) where
  pub room_says : JobSays (take link_room bytes) out work r out' work' → JobSays bytes out work r out' work'
  room_says s = ⊎_elim
      (λ (h : link_room ≤ length bytes). full-says bytes h out work r out' work' s)
      (λ (h : length bytes < link_room). rw (take_all link_room bytes (omega arith)) at s)
      (le_or_lt link_room (length bytes))

  pub says-room : JobSays bytes out work r out' work' → JobSays (take link_room bytes) out work r out' work'
  says-room s = ⊎_elim
      (λ (h : link_room ≤ length bytes). says-full bytes h out work r out' work' s)
      (λ (h : length bytes < link_room). rw (take_all link_room bytes (omega arith)) s)
      (le_or_lt link_room (length bytes))

-- ---- begin and parts

-- what is kept of a front that was kept, and more
kept_more : (n : ℕ) (a b : List ℕ) → take n (take n a ++ b) ≡ take n (a ++ b)
kept_more zero a b = refl
kept_more (suc n) [] b = refl
kept_more (suc n) (x ∷ a) b = ap (λ (l : List ℕ). x ∷ l) (kept_more n a b)

-- a job is under way, and these are its bytes so far, of which as many have come as there is room for
record Coming (bytes link : List ℕ) : Type 0 where
  taking : link_refusal link ≡ 0
  came : came_in link ≡ take link_room bytes

module _ (link : List ℕ) (h : link_bytes ≤ length link) (r : Result (Unit {0}) Refusal) (link' : List ℕ) where
  begin-comes : LinkBeginSays link r link' → (r ≡ Ok tt) × Coming [] link'
  begin-comes p =
      let z = is_long link h in
      let m : link' ≡ under_way [] ++ drop (length (under_way [])) link = rw z at p.memory in
      (accepted_ok r (p.answer ∙ z), record { taking = rw m (held_open [] link (omega arith) h); came = rw m (held-came [] link (omega arith) h) })

  -- a clean start, whatever the memory held: a job is under way, and no bytes have come
  pub begin-clean : LinkBeginSays link r link' → (r ≡ Ok tt) × (has_ended link' ≡ false) × (came_in link' ≡ [])
  begin-clean p = let s = begin-comes p in (s.0, is_open link' s.1.taking, s.1.came)

module _ (link bytes so_far : List ℕ) (r : Result (Unit {0}) Refusal) (link' : List ℕ) (c : Coming so_far link) where
  part-comes : LinkPartSays link bytes r link' → (r ≡ Ok tt) × Coming (so_far ++ bytes) link'
  part-comes p =
      let z = c.taking in
      let b : List ℕ = take link_room (came_in link ++ bytes) in
      let few : length b ≤ link_room = rw (length-take link_room (came_in link ++ bytes)) (omega arith) in
      let h = open_long link z in
      let m : link' ≡ under_way b ++ drop (length (under_way b)) link = rw z at p.memory in
      let n : b ≡ take link_room (so_far ++ bytes) = ap (λ (l : List ℕ). take link_room (l ++ bytes)) c.came ∙ kept_more link_room so_far bytes in
      (accepted_ok r (p.answer ∙ z), record { taking = rw m (held_open b link few h); came = rw m (held-came b link few h) ∙ n })

parts_come : (parts : List (List ℕ)) (link so_far : List ℕ) (outcomes : List CallOutcome) (link' : List ℕ) → Coming so_far link → Calls link (map part_of parts) outcomes link'
    → (outcomes ≡ map taken parts) × Coming (so_far ++ flatten parts) link'
unfolding flatten
parts_come [] link so_far outcomes link' c none = (refl, rw (append-nil so_far) c)
parts_come (bytes ∷ parts) link so_far outcomes link' c (part_then p cs) =
    let s = part-comes link bytes so_far _ _ c p in
    let t = parts_come parts _ (so_far ++ bytes) _ link' s.1 cs in
    (rw (s.0, t.0), rw (append_assoc so_far bytes (flatten parts)) at t.1)

-- ---- a job in parts

module _ (link : List ℕ) (h : link_bytes ≤ length link) (parts : List (List ℕ)) (out work : List ℕ) (r : Result Done Failure) (link' out' work' : List ℕ) (j : JobInParts link parts out work r link' out' work') where
  pub link_whole : AsWhole j
  link_whole =
      let b = begin-comes link h j.begun j.clean j.begins in
      let p = parts_come parts j.clean [] j.outcomes j.full b.1 j.comes in
      let c = p.1 in
      let s : JobSays (take link_room (flatten parts)) out work r out' work' = rw (c.taking, c.came) at j.ends.job in
      record { starts = b.0; takes = p.0; answers = room_says (flatten parts) out work r out' work' s }

  -- a place counts from the job's first byte, however it was cut
  pub link_told : (what : Damage) (at : ℕ) → r ≡ Err (Damaged what at) → (damage_of (flatten parts) ≡ wrong what at) × PlaceRight (flatten parts) what at
  link_told = job-told (flatten parts) out work r out' work' link_whole.answers

-- two cuttings of the same bytes, over any two memories
pub cuttings_agree : (link₁ link₂ : List ℕ) → link_bytes ≤ length link₁ → link_bytes ≤ length link₂ → (parts₁ parts₂ : List (List ℕ)) → flatten parts₁ ≡ flatten parts₂
    → (out work : List ℕ) (r s : Result Done Failure) (l₁ o₁ w₁ l₂ o₂ w₂ : List ℕ) → JobInParts link₁ parts₁ out work r l₁ o₁ w₁ → JobInParts link₂ parts₂ out work s l₂ o₂ w₂ → (r ≡ s) × (o₁ ≡ o₂) × (w₁ ≡ w₂)
cuttings_agree link₁ link₂ h₁ h₂ parts₁ parts₂ e out work r s l₁ o₁ w₁ l₂ o₂ w₂ j k =
    let p = (link_whole link₁ h₁ parts₁ out work r l₁ o₁ w₁ j).answers in
    let q = (link_whole link₂ h₂ parts₂ out work s l₂ o₂ w₂ k).answers in
    job_one (flatten parts₂) out work o₁ o₂ w₁ w₂ r s (rw e at p) q

-- ---- after the end

module _ (link : List ℕ) (e : has_ended link ≡ true) where
  part_11 : (bytes : List ℕ) (r : Result (Unit {0}) Refusal) (link' : List ℕ) → LinkPartSays link bytes r link' → (r ≡ Err JobEnded) × (link' ≡ link)
  part_11 bytes r link' p = let k = ended_11 link e in (refused-one r (Err JobEnded) (p.answer ∙ k), rw k at p.memory)

  end_11 : (out work : List ℕ) (r : Result Done Failure) (link' out' work' : List ℕ) → LinkEndSays link out work r link' out' work' → (r ≡ Err (Refused JobEnded)) × (link' ≡ link) × (out' ≡ out) × (work' ≡ work)
  unfolding work_of
  end_11 out work r link' out' work' p =
      let k = ended_11 link e in
      let s = rw k at p.job in
      (answered-one r (Err (Refused JobEnded)) (same s.answer), rw k at p.memory, s.output, s.workspace)

all-refused : (calls : List Call) (link : List ℕ) (outcomes : List CallOutcome) (link' : List ℕ) → has_ended link ≡ true → Calls link calls outcomes link' → (outcomes ≡ map refused11 calls) × (link' ≡ link)
all-refused [] link outcomes link' e none = (refl, refl)
all-refused (part_of bytes ∷ calls) link outcomes link' e (part_then p cs) =
    let s = part_11 link e bytes _ _ p in
    let t = all-refused calls _ _ link' (rw s.1 e) cs in
    (rw (s.0, t.0), t.1 ∙ s.1)
all-refused (end_with out work ∷ calls) link outcomes link' e (end_then p cs) =
    let s = end_11 link e out work _ _ _ _ p in
    let t = all-refused calls _ _ link' (rw s.1 e) cs in
    (rw (s.0, s.2, s.3, t.0), t.1 ∙ s.1)

-- an end, accepted or refused, over a memory that is long enough, whatever it holds
module _ (link : List ℕ) (h : link_bytes ≤ length link) (out work : List ℕ) (r : Result Done Failure) (link' out' work' : List ℕ) (f : LinkEndSays link out work r link' out' work') where
  pub end-ends : has_ended link' ≡ true
  end-ends =
      (elim (has_ended link) as (λ s. has_ended link ≡ s → has_ended link' ≡ true) [
        | true ↦ λ e. let m : link' ≡ link = rw (ended_11 link e) at f.memory in rw m e
        | false ↦ λ e. let m : link' ≡ idle ++ drop (length idle) link = rw (open_0 link e h) at f.memory in rw m (idle_ended link)
      ])
      refl

  end-long : link_bytes ≤ length link'
  end-long = let e : length link' ≡ length link = ap length f.memory ∙ written-long (link_refusal link) idle link (omega (arith, bytes-length head_bytes 0)) in omega arith

  -- calls after it, of parts and ends in any order
  module _ (calls : List Call) (outcomes : List CallOutcome) (link₂ : List ℕ) (cs : Calls link' calls outcomes link₂) where
    -- each is refused with 11, and memory, output and work space are as they were
    pub link_after : (outcomes ≡ map refused11 calls) × (link₂ ≡ link')
    link_after = all-refused calls link' outcomes link₂ end-ends cs

    -- and the next job is answered as the file of its own bytes is: nothing is seen of what came before
    pub link_again : (parts : List (List ℕ)) (o w : List ℕ) (s : Result Done Failure) (link₃ o' w' : List ℕ) (j : JobInParts link₂ parts o w s link₃ o' w') → AsWhole j
    link_again parts o w s link₃ o' w' j = link_whole link₂ (rw link_after.1 end-long) parts o w s link₃ o' w' j
