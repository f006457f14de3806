-- The numbers that stand in a job's bytes, read to the front of an array.
use mathlib.Core.Path.{◌≡◌, sym, ap, ◌∙◌}
use mathlib.Core.Bool.{true, false, cond}
use mathlib.Core.List.{List, ◌++◌}
use Prim.Native.Nat.{ℕ, ◌+◌, ◌*◌, ◌≤◌}
use native.Mathlib.Nat.{mul-le-mul_right}
use native.Mathlib.Omega.{arith}
use borrow.Author.Tests.{eq-eqb, ne_eqb}
use lib.Dec.{eqb}
use lib.ListN.{length, take, drop, replicate, length-append, length-replicate}
use lib.Seq.{length-take-le, take_at}
use lib.Ieee.{Float}
use Rattle.lists.proofs.Fills.{build-length}
use Rattle.std.specs.Prelude.{Result}
use Rattle.lists.specs.declared.Refusal.{Refusal}
use Rattle.steps.specs.Steps.{states}
use Rattle.duration.specs.Promise.{SpeedSays}
use Rattle.job.specs.Format.{float_at, number_at, floats_at, numbers_behind, shortest_at}

-- ---- one a state

pub floats-long : (bytes : List ℕ) (at step n : ℕ) → length (floats_at bytes at step n) ≡ n
unfolding floats_at
floats-long bytes at step n = build-length (λ (i : ℕ). float_at bytes (at + step * i)) n

numbers-long : (bytes : List ℕ) (n : ℕ) → length (numbers_behind bytes n) ≡ n
unfolding numbers_behind
numbers-long bytes n = build-length (λ (i : ℕ). number_at bytes (31 + 20 * i)) n

pub shortest-long : (version : ℕ) (bytes : List ℕ) (n : ℕ) → length (shortest_at version bytes n) ≡ n
shortest-long version bytes n = (elim (eqb version 1) as (λ t. length (cond t (replicate n 1) (numbers_behind bytes n)) ≡ n) [ true ↦ length-replicate n 1 | false ↦ numbers-long bytes n ])

-- the place of a state's number
pub step_fits : (step i : ℕ) → step ≤ 20 → i ≤ 1024 → step * i ≤ 20480
step_fits step i h l = omega (arith, mul-le-mul_right i h)

-- ---- the shortest of a list's length

module _ (version : ℕ) (bytes into w : List ℕ) where
  pub ones-read : version ≡ 1 → w ≡ replicate (length into) 1 → w ≡ shortest_at version bytes (length into)
  ones-read v e = rw (eq-eqb version 1 v) e

  pub numbers-read : (version ≡ 1 → ⊥) → w ≡ numbers_behind bytes (length into) → w ≡ shortest_at version bytes (length into)
  numbers-read v e = rw (ne_eqb version 1 v) e

-- ---- read to the front of an array

module _ {A : Type 0} where
  -- the front that is lent to be read into
  pub front-few : (n m : ℕ) (start : List A) → n ≤ length start → n ≤ m → length (take n start) ≤ m
  front-few n m start room h = rw (length-take-le n start room) h

  -- an array of whose front w was read
  module _ (n : ℕ) (start w : List A) (room : n ≤ length start) (k : length w ≡ length (take n start)) where
    read-long : length w ≡ n
    read-long = k ∙ length-take-le n start room

    pub read-room : n ≤ length (w ++ drop n start)
    read-room = simp length-append (omega (arith, read-long))

    pub read_again : n ≡ length (take n (w ++ drop n start))
    read_again = sym (length-take-le n (w ++ drop n start) read-room)

    -- by a rule for any number of them
    pub read-front : (rule : ℕ → List A) → w ≡ rule (length (take n start)) → take n (w ++ drop n start) ≡ rule n
    read-front rule r = take_at w (drop n start) n read-long ∙ r ∙ ap rule (length-take-le n start room)

-- the call with what was read
pub create_is : (ms ns vs us : List Float) (ls ks : List ℕ) (x y : Float) (out work : List ℕ) (r : Result ℕ Refusal) (out' work' : List ℕ) → ms ≡ ns → vs ≡ us → ls ≡ ks → x ≡ y
    → SpeedSays (states ms vs ls) x out work r out' work' → SpeedSays (states ns us ks) y out work r out' work'
create_is ms ns vs us ls ks x y out work r out' work' e f s g h = rw (← e, ← f, ← s, ← g) h
