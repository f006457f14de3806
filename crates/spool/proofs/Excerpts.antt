-- Excerpts lie in the trajectory, those of consecutive states joined are a part of it, and all of them are the trajectory.
use mathlib.Core.Path.{◌≡◌, sym, ap, ◌∙◌}
use mathlib.Core.List.{List, []}
use Prim.Native.Nat.{ℕ, zero, suc, ◌+◌, ◌*◌, ◌<◌, ◌≤◌}
use native.Mathlib.Nat.{zero-mul, add-mul, mul-le-mul_right}
use native.Mathlib.Numerals.{add-one}
use native.Mathlib.Omega.{arith}
use denote.Ref.{Bor}
use lib.Ieee.{Float}
use lib.ListN.{length, take, drop, get_or, length-drop, take-append-drop}
use lib.Seq.{get_or-drop, drop-drop, take-add, take_all}
use Rattle.lists.specs.Totals.{total}
use Rattle.lists.specs.Build.{rows}
use Rattle.lists.proofs.Sums.{total-append, total-more, total-none, total-part}
use Rattle.lists.proofs.Joins.{rows_none, rows_next, rows_same}
use Rattle.spool.specs.Excerpt.{first_of, excerpt_start, excerpt_count, excerpt_of}
use Rattle.spool.specs.Refusal.{trajectory_refusal}
use Rattle.spool.specs.Promise.{ExcerptSays}
use Rattle.spool.specs.Refusal.Laws.{Accepted, accepts, excerpt_0}

-- the next state starts where this one ends
pub start-next : (ds : List ℕ) (v state : ℕ) → state < length ds → excerpt_start ds v (state + 1) ≡ excerpt_start ds v state + excerpt_count ds v state
start-next ds v state h =
    let m : (first_of ds state + get_or ds state 0) * v ≡ first_of ds state * v + get_or ds state 0 * v = add-mul (first_of ds state) (get_or ds state 0) v in
    rw (total-more ds state h) (omega arith)

-- and the last one ends within the trajectory
pub excerpt_fits : (numbers : ℕ) (ds : List ℕ) (v state : ℕ) → Accepted numbers ds v → state < length ds → excerpt_start ds v state + excerpt_count ds v state ≤ numbers
excerpt_fits numbers ds v state a h =
    let t : first_of ds (state + 1) + total (drop (state + 1) ds) ≡ total ds = sym (total-append (take (state + 1) ds) (drop (state + 1) ds)) ∙ ap total (take-append-drop (state + 1) ds) in
    let l : first_of ds (state + 1) * v ≤ total ds * v = mul-le-mul_right v (omega arith) in
    omega (arith, start-next ds v state h, a.agree)

-- whatever the numbers are
module _ {A : Type 0} (trajectory : List A) (ds : List ℕ) (v : ℕ) (part : ℕ → List A) (parts : (state : ℕ) → state < length ds → part state ≡ excerpt_of trajectory ds v state) (from : ℕ) where
  -- the frames of n states from one on
  abbrev frames : ℕ → ℕ
  frames n = total (take n (drop from ds))

  frames-next : (n : ℕ) → from + n < length ds → frames (n + 1) ≡ frames n + get_or ds (from + n) 0
  frames-next n h =
      let d : get_or (drop from ds) n 0 ≡ get_or ds (from + n) 0 = get_or-drop from ds n 0 in
      total-more (drop from ds) n (simp length-drop (omega arith)) ∙ rw d

  -- the excerpt behind those of n states
  part-next : (n : ℕ) → from + n < length ds → part (from + n) ≡ take (get_or ds (from + n) 0 * v) (drop (frames n * v) (drop (first_of ds from * v) trajectory))
  unfolding excerpt_of
  part-next n h =
      let s : excerpt_start ds v (from + n) ≡ first_of ds from * v + frames n * v = omega (arith, ap (λ (f : ℕ). f * v) (total-part ds from n), add-mul (first_of ds from) (frames n) v) in
      parts (from + n) h ∙ rw (s, drop-drop)

  pub parts_from : (n : ℕ) → from + n ≤ length ds → rows (λ i. part (from + i)) n ≡ take (frames n * v) (drop (first_of ds from * v) trajectory)
  parts_from zero h = let z : frames 0 * v ≡ 0 = ap (λ (f : ℕ). f * v) (total-none [] 0 (omega arith)) ∙ zero-mul v in rows_none (λ i. part (from + i)) ∙ rw z
  parts_from (suc n) h =
      let l : List A = drop (first_of ds from * v) trajectory in
      let e : frames (suc n) * v ≡ frames n * v + get_or ds (from + n) 0 * v = ap (λ (f : ℕ). f * v) (rw add-one at (frames-next n (omega arith))) ∙ add-mul (frames n) (get_or ds (from + n) 0) v in
      rw add-one at (rows_next (λ i. part (from + i)) n)
      ∙ rw (parts_from n (omega arith), part-next n (omega arith), e) (sym (take-add (frames n * v) (get_or ds (from + n) 0 * v) l))

-- what the calls hand out, state by state, unless the trajectory is refused with its durations
module _ (trajectory : Bor (List Float)) (ds : List ℕ) (v : ℕ) (part : ℕ → Bor (List Float)) (says : (state : ℕ) → state < length ds → ExcerptSays trajectory ds v state (part state)) (e : trajectory_refusal (length trajectory.now) ds v ≡ 0) where
  each : (state : ℕ) → state < length ds → (part state).now ≡ excerpt_of trajectory.now ds v state
  each state h = (says state h).numbers ∙ rw (excerpt_0 (length trajectory.now) ds v state e h)

  -- is, of n states from one on, the part that begins with its first frame and has their frames
  pub excerpts_from : (from n : ℕ) → from + n ≤ length ds → rows (λ i. (part (from + i)).now) n ≡ take (total (take n (drop from ds)) * v) (drop (total (take from ds) * v) trajectory.now)
  excerpts_from from n h = parts_from trajectory.now ds v (λ state. (part state).now) each from n h

  -- and of all states the trajectory
  pub excerpts-join : rows (λ state. (part state).now) (length ds) ≡ trajectory.now
  excerpts-join =
      let a = (accepts (length trajectory.now) ds v e).agree in
      let w : take (length ds) ds ≡ ds = take_all (length ds) ds (omega arith) in
      let z : total (take 0 ds) * v ≡ 0 = ap (λ (f : ℕ). f * v) (total-none [] 0 (omega arith)) ∙ zero-mul v in
      rows_same (λ state. (part state).now) (λ i. (part (0 + i)).now) (length ds) (λ i h. let o : 0 + i ≡ i = omega arith in rw o)
      ∙ excerpts_from 0 (length ds) (omega arith) ∙ rw (z, w) (take_all (total ds * v) trajectory.now (omega arith))
