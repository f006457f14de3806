-- Laws of a serial link's memory.
use mathlib.Core.Path.{◌≡◌, refl, sym, ap, ◌∙◌}
use mathlib.Core.Bool.{true, false, cond}
use mathlib.Core.List.{List, [], ◌++◌, append_assoc, append-nil}
use Prim.Native.Nat.{ℕ, ◌+◌, ◌-◌, ◌≤◌, ◌<◌, min}
use native.Mathlib.Nat.{min_comm}
use native.Mathlib.Omega.{arith}
use borrow.Author.Tests.{ltb-false, le-ltb, eqb-false, ne_eqb}
use borrow.Rule.Slice.PartMut.{mid_of, put_mid}
use lib.Dec.{ltb, eqb}
use lib.ListN.{length, take, drop, length-append, length-drop}
use lib.Seq.{sets, sets-eq, length-take-le, take_at, drop_at, take-add, take-append-add, drop-append-le}
use Rattle.lists.specs.Answers.{written}
use Rattle.lists.specs.Bytes.{little, bytes_of}
use Rattle.lists.proofs.Bytes.{bytes-length, little-bytes}
use Rattle.lists.proofs.Answers.{written-long}
use Rattle.lists.proofs.Parts.{take_min}
use Rattle.lists.proofs.Refusals.{or_none}
use Rattle.lists.proofs.Regions.{lent_stored}
use Rattle.duration.proofs.Refusals.{cond-none}
use Rattle.job.specs.Link.{head_bytes, link_room, link_bytes, idle, under_way, stage_of, has_ended, came_in, begin_refusal, link_refusal}
use Rattle.lists.proofs.Flags.{neither}

-- ---- a memory with a job under way, in which a part and an end are taken

pub long-enough : (link : List ℕ) → begin_refusal link ≡ 0 → link_bytes ≤ length link
unfolding begin_refusal
long-enough link z = ltb-false (length link) link_bytes (cond-none (ltb (length link) link_bytes) 5 0 z).0

pub is_long : (link : List ℕ) → link_bytes ≤ length link → begin_refusal link ≡ 0
unfolding begin_refusal
is_long link h = rw (le-ltb (length link) link_bytes h)

module _ (link : List ℕ) (z : link_refusal link ≡ 0) where
  open_parts : (has_ended link ≡ false) × (begin_refusal link ≡ 0)
  unfolding link_refusal
  open_parts = let n = or_none (cond (has_ended link) 11 0) (begin_refusal link) z in ((cond-none (has_ended link) 10 0 n.0).0, n.1)

  pub is_open : has_ended link ≡ false
  is_open = open_parts.0

  pub open_long : link_bytes ≤ length link
  open_long = long-enough link open_parts.1

  -- the number is 1 to 20,497
  pub open_stage : (0 < stage_of link) × (stage_of link ≤ link_room + 1)
  unfolding has_ended
  open_stage =
      let n = neither (eqb (stage_of link) 0) (ltb (link_room + 1) (stage_of link)) is_open in
      let p : stage_of link ≡ 0 → ⊥ = eqb-false (stage_of link) 0 n.0 in
      (omega arith, ltb-false (link_room + 1) (stage_of link) n.1)

  pub came-long : length (came_in link) ≡ stage_of link - 1
  unfolding came_in
  came-long = length-take-le (stage_of link - 1) (drop head_bytes link) (simp length-drop (omega (arith, open_stage.1, open_long)))

  pub came-few : length (came_in link) ≤ link_room
  came-few = omega (arith, came-long, open_stage.1)

-- ---- a memory in which these bytes have come

module _ (b link : List ℕ) (few : length b ≤ link_room) (long : link_bytes ≤ length link) where
  abbrev number : ℕ
  number = length b + 1

  abbrev rest : List ℕ
  rest = drop (length (under_way b)) link

  abbrev held : List ℕ
  held = under_way b ++ rest

  front_long : length (under_way b) ≡ head_bytes + length b
  unfolding under_way
  front_long = length-append (bytes_of head_bytes number) b ∙ ap (λ (n : ℕ). n + length b) (bytes-length head_bytes number)

  held_is : held ≡ bytes_of head_bytes number ++ (b ++ rest)
  unfolding under_way
  held_is = append_assoc (bytes_of head_bytes number) b rest

  pub held-long : length held ≡ length link
  held-long = written-long 0 (under_way b) link (omega (arith, front_long))

  held_stage : stage_of held ≡ number
  held_stage = ap little (ap (take head_bytes) held_is ∙ take_at (bytes_of head_bytes number) (b ++ rest) head_bytes (bytes-length head_bytes number)) ∙ little-bytes head_bytes number (omega arith)

  pub held-came : came_in held ≡ b
  unfolding came_in
  held-came =
      let d : drop head_bytes held ≡ b ++ rest = ap (drop head_bytes) held_is ∙ drop_at (bytes_of head_bytes number) (b ++ rest) head_bytes (bytes-length head_bytes number) in
      let n : stage_of held - 1 ≡ length b = omega (arith, held_stage) in
      rw (n, d) (take_at b rest (length b) refl)

  pub held_open : link_refusal held ≡ 0
  unfolding link_refusal has_ended
  held_open =
      let n : number ≡ 0 → ⊥ = λ e. omega arith in
      let g : link_bytes ≤ length held = omega (arith, held-long) in
      rw (held_stage, ne_eqb number 0 n, le-ltb (link_room + 1) number (omega arith)) (is_long held g)

-- ---- a memory in which a job has ended

pub idle_ended : (link : List ℕ) → has_ended (idle ++ drop (length idle) link) ≡ true
unfolding has_ended little bytes_of
idle_ended link = refl

-- where one has, a part and an end are refused with 11
pub ended_11 : (link : List ℕ) → has_ended link ≡ true → link_refusal link ≡ 11
unfolding link_refusal
ended_11 link e = rw e

-- and where none has, in a memory that is long enough, they are taken
pub open_0 : (link : List ℕ) → has_ended link ≡ false → link_bytes ≤ length link → link_refusal link ≡ 0
unfolding link_refusal
open_0 link e h = rw e (is_long link h)

-- ---- what the calls store

-- a number in front
pub numbered : (n : ℕ) (link : List ℕ) → link_bytes ≤ length link → sets link 0 (bytes_of head_bytes n) ≡ bytes_of head_bytes n ++ drop head_bytes link
numbered n link h = sets-eq (bytes_of head_bytes n) link 0 (omega (arith, bytes-length head_bytes n)) ∙ rw (bytes-length head_bytes n)

pub begun : (link : List ℕ) → link_bytes ≤ length link → sets link 0 (bytes_of head_bytes 1) ≡ written 0 (under_way []) link
unfolding under_way
begun link h = numbered 1 link h ∙ rw (append-nil (bytes_of head_bytes 1), bytes-length head_bytes 1)

pub ended : (link : List ℕ) → link_bytes ≤ length link → sets link 0 idle ≡ written 0 idle link
ended link h = numbered 0 link h ∙ rw (bytes-length head_bytes 0)

-- a part of which more bytes have room behind those that came
module _ (link bytes : List ℕ) (z : link_refusal link ≡ 0) (came more : ℕ) (e : came ≡ stage_of link - 1) (f : more ≡ min (length bytes) (link_room - came)) where
  abbrev joined : List ℕ
  joined = take link_room (came_in link ++ bytes)

  joined_is : joined ≡ came_in link ++ take more bytes
  joined_is =
      let n : link_room ≡ length (came_in link) + (link_room - came) = omega (arith, came-long link z, came-few link z) in
      ap (λ (k : ℕ). take k (came_in link ++ bytes)) n ∙ take-append-add (came_in link) bytes (link_room - came) ∙ ap (λ (l : List ℕ). came_in link ++ l) (sym (take_min (link_room - came) bytes) ∙ ap (λ (k : ℕ). take k bytes) (min_comm (link_room - came) (length bytes) ∙ sym f))

  more-long : length (take more bytes) ≡ more
  more-long = length-take-le more bytes (omega arith)

  front_is : drop head_bytes (take (head_bytes + came) link) ≡ came_in link
  unfolding came_in
  front_is = ap (drop head_bytes) (take-add head_bytes came link) ∙ drop_at (take head_bytes link) (take came (drop head_bytes link)) head_bytes (length-take-le head_bytes link (omega (arith, open_long link z))) ∙ rw e

  abbrev kept : List ℕ
  kept = came_in link ++ take more bytes

  kept-long : length kept ≡ came + more
  kept-long = length-append (came_in link) (take more bytes) ∙ omega (arith, came-long link z, more-long)

  -- what lies behind them
  abbrev behind : List ℕ
  behind = drop (head_bytes + came + length (take more bytes)) link

  kept_is : written 0 (under_way joined) link ≡ bytes_of head_bytes (came + more + 1) ++ (came_in link ++ (take more bytes ++ behind))
  unfolding under_way
  kept_is =
      let f : length (under_way kept) ≡ head_bytes + came + length (take more bytes) = omega (arith, length-append (bytes_of head_bytes (length kept + 1)) kept, bytes-length head_bytes (length kept + 1), kept-long, more-long) in
      ap (λ (b : List ℕ). written 0 (under_way b) link) joined_is
      ∙ ap (λ (k : ℕ). under_way kept ++ drop k link) f
      ∙ ap (λ (k : ℕ). (bytes_of head_bytes (k + 1) ++ kept) ++ behind) kept-long
      ∙ append_assoc (bytes_of head_bytes (came + more + 1)) kept behind
      ∙ ap (λ (l : List ℕ). bytes_of head_bytes (came + more + 1) ++ l) (append_assoc (came_in link) (take more bytes) behind)

  pub part-kept : (w : List ℕ) → w ≡ sets (mid_of (head_bytes + came) (length link - (head_bytes + came)) link) 0 (take more bytes)
      → sets (put_mid (head_bytes + came) (length link - (head_bytes + came)) link w) 0 (bytes_of head_bytes (came + more + 1)) ≡ written 0 (under_way joined) link
  part-kept w q =
      let l = open_long link z in
      let c = came-long link z in
      let g = came-few link z in
      let b : head_bytes + came + length (take more bytes) ≤ length link = omega (arith, more-long) in
      let m : List ℕ = take (head_bytes + came) link ++ (take more bytes ++ behind) in
      let p : put_mid (head_bytes + came) (length link - (head_bytes + came)) link w ≡ m = lent_stored (head_bytes + came) (length link) link w (take more bytes) (omega arith) (omega arith) (omega arith) q ∙ sets-eq (take more bytes) link (head_bytes + came) b ∙ append_assoc (take (head_bytes + came) link) (take more bytes) behind in
      let t : length (take (head_bytes + came) link) ≡ head_bytes + came = length-take-le (head_bytes + came) link (omega arith) in
      let k : link_bytes ≤ length m = simp (length-append, length-drop) (omega (arith, t)) in
      let d : drop head_bytes m ≡ came_in link ++ (take more bytes ++ behind) = drop-append-le head_bytes (take (head_bytes + came) link) (take more bytes ++ behind) (omega (arith, t)) ∙ ap (λ (x : List ℕ). x ++ (take more bytes ++ behind)) front_is in
      ap (λ (x : List ℕ). sets x 0 (bytes_of head_bytes (came + more + 1))) p ∙ numbered (came + more + 1) m k ∙ ap (λ (x : List ℕ). bytes_of head_bytes (came + more + 1) ++ x) d ∙ sym kept_is
