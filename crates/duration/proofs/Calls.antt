-- The calls as wholes: refused before any work, refused after it, accepted; and two outcomes of one call are equal.
use mathlib.Core.Path.{◌≡◌, refl, sym, ap, ◌∙◌}
use mathlib.Core.Bool.{true}
use mathlib.Core.List.{List, [], ◌∷◌, ◌++◌}
use Prim.Native.Nat.{ℕ, zero, suc, ◌+◌, ◌≤◌, ◌<◌, min}
use native.Mathlib.Nat.{le_refl}
use native.Mathlib.Omega.{arith}
use lib.ListN.{length, get_or, set, take, drop, replicate, length-append, length-replicate}
use lib.Ieee.{Float}
use lib.Seq.{sets, take_at, drop_at}
use borrow.Author.Tests.{ne_eqb}
use Rattle.lists.specs.Ends.{counted}
use Rattle.lists.specs.declared.Refusal.{Refusal}
use Rattle.std.proofs.Common.{Result, Ok, Err}
use Rattle.lists.specs.Refusals.{number_of}
use Rattle.lists.proofs.Ends.{some_number, refuses, answered-one, counted-one}
use Rattle.lists.proofs.Stores.{filled, copied, Storing, storing, storing-read, copying_next, copying_done, filling-next, filling-done}
use Rattle.lists.proofs.Answers.{Same, same, untouched, refused_is, accepted_is}
use Rattle.duration.specs.declared.Aligned.{Aligned}
use Rattle.lists.specs.Refusals.{or_else}
use Rattle.duration.specs.Inner.Asked.{HandsOut}
use Rattle.lists.specs.Answers.{Answer, refusing, answer_of}
use Rattle.steps.specs.Steps.{States}
use Rattle.duration.specs.Promise.{aligned, clears, work_of, Says, FitSays, SpeedSays, AlignOnTime}

module _ (n : ℕ) (values new out work : List ℕ) where
  -- by the lists, with b, whatever the shortest durations would be refused with
  pub says-early : (b s k : ℕ) → (b ≡ 0 → ⊥) → b ≤ 6 → Says (or_else (or_else b s) k) values new n out work (refusing b) out work
  unfolding work_of
  says-early zero s k z h = absurd (z refl)
  says-early (suc b) s k z h =
      record { answer = refl; output = refl; workspace = rw (ne_eqb (suc b) 0 z, ne_eqb (suc b) 7 (λ q. omega arith), ne_eqb (suc b) 8 (λ q. omega arith)) }

  pub says-refused : (e : Refusal) (b s k : ℕ) → number_of e ≡ b → b ≤ 6 → Says (or_else (or_else b s) k) values new n out work (refusing (number_of e)) out work
  says-refused e b s k q h = rw q (says-early b s k (λ z. let g = some_number e in omega arith) h)

  -- by these, where the lists are taken
  pub says-unfit : (b s k j : ℕ) → b ≡ 0 → s ≡ 15 → j ≡ s → Says (or_else (or_else b s) k) values new n out work (refusing j) out work
  unfolding work_of
  says-unfit b s k j z e f = rw (z, f, e) (record { answer = refl; output = refl; workspace = refl })

-- ---- a loop that moves n numbers from the front of one list to that of another has moved i

pub record Moving (n : ℕ) (out₀ work₀ out work : List ℕ) (i : ℕ) : Type 0 where
  pub moved : Storing (take n work₀) out₀ out n i
  pub left : Storing (replicate n 0) work₀ work n i

module _ (n : ℕ) (out₀ work₀ : List ℕ) (room : (n ≤ length out₀) × (n ≤ length work₀)) where
  pub moving : Moving n out₀ work₀ out₀ work₀ 0
  moving = record { moved = storing (take n work₀) out₀ n; left = storing (replicate n 0) work₀ n }

  module _ (out work : List ℕ) (i : ℕ) (g : Moving n out₀ work₀ out work i) where
    moved-end : n ≡ min (min n (length work₀)) (length out₀)
    moved-end = omega (arith, room.0, room.1)

    left_end : n ≡ min n (length work₀)
    left_end = omega (arith, room.1)

    pub moving-next : i < n → Moving n out₀ work₀ (set out i (get_or work i 0)) (set work i 0) (i + 1)
    moving-next h =
        let read : get_or work i 0 ≡ get_or work₀ i 0 = storing-read (replicate n 0) work₀ work n i 0 (rw (length-replicate {A = ℕ} n 0) (le_refl n)) h (omega (arith, room.1)) g.left in
        record { moved = copying_next n work₀ out₀ out n i moved-end g.moved (get_or work i 0) 0 h read; left = filling-next n 0 work₀ work n i left_end g.left h }

    pub moving-done : n ≤ i → (out ≡ sets out₀ 0 (take n work₀)) × (work ≡ sets work₀ 0 (replicate n 0))
    moving-done h = (copying_done n work₀ out₀ out n i moved-end g.moved h, filling-done n 0 work₀ work n i left_end g.left h)

-- a list whose front was put back has room for it
pub room-kept : (n : ℕ) (w work : List ℕ) → length w ≡ n → n ≤ length (w ++ drop n work)
room-kept n w work e = simp length-append (omega arith)

-- after the work: w is its front, of n numbers
module _ (n k : ℕ) (new out work w : List ℕ) (long : length w ≡ n) (late : clears k ≡ true) where
  whole_long : n ≤ length (w ++ drop n work)
  whole_long = room-kept n w work long

  cleared : (work' : List ℕ) → work' ≡ sets (w ++ drop n work) 0 (replicate n 0) → work' ≡ work_of k n work
  unfolding work_of
  cleared work' e = rw (late, ← drop_at w (drop n work) n long) (e ∙ filled n 0 (w ++ drop n work) whole_long)

  pub says-late : (v : ℕ) (vs : List ℕ) (m : ℕ) (a : Answer) (work' : List ℕ) → a ≡ refusing m → a ≡ answer_of k (v ∷ vs) → work' ≡ sets (w ++ drop n work) 0 (replicate n 0) → Says (or_else 0 k) (v ∷ vs) new n out work a out work'
  says-late v vs m a work' r e f = record { answer = e; output = untouched k new out (refused_is m k v vs (sym r ∙ e)).1; workspace = cleared work' f }

  -- it is the durations
  says-whole : (values : List ℕ) (a : Answer) (out' work' : List ℕ) → a ≡ answer_of k values → a.number ≡ 0 → n ≤ length out → (k ≡ 0 → w ≡ new)
      → out' ≡ sets out 0 (take n (w ++ drop n work)) → work' ≡ sets (w ++ drop n work) 0 (replicate n 0) → Says (or_else 0 k) values new n out work a out' work'
  says-whole values a out' work' e z room t o f =
      let y : k ≡ 0 = (accepted_is a k values e z).0 in
      record {
        answer = e;
        output = rw (y, ← t y, long) (o ∙ copied n (w ++ drop n work) out whole_long room ∙ ap (λ (x : List ℕ). x ++ drop n out) (take_at w (drop n work) n long));
        workspace = cleared work' f;
      }

  -- a fit's outcome, handed out
  pub says-handed : (v : ℕ) (r s : Result ℕ Refusal) (out' work' : List ℕ) → counted r ≡ answer_of k (v ∷ []) → (k ≡ 0 → w ≡ new) → n ≤ length out → HandsOut r n out (w ++ drop n work) s out' work' → Says (or_else 0 k) (v ∷ []) new n out work (counted s) out' work'
  says-handed v (Ok c) s out' work' e t room h = says-whole (v ∷ []) (counted s) out' work' (ap counted h.same ∙ e) (ap (λ (x : Result ℕ Refusal). (counted x).number) h.same) room t h.output h.workspace
  says-handed v (Err m) s out' work' e t room h = rw h.output (says-late v [] (number_of m) (counted s) work' (ap counted h.same) (ap counted h.same ∙ e) h.workspace)

-- an alignment's answer from that of its fit: n durations, and u changes
module _ (k n u : ℕ) (new out work : List ℕ) (s : Result ℕ Refusal) (out' work' : List ℕ) (f : Says k (u ∷ []) new n out work (counted s) out' work') where
  pub aligned-done : (c : ℕ) → s ≡ Ok c → Says k (n ∷ u ∷ []) new n out work (aligned (Ok (record { states = n; changes = c }))) out' work'
  aligned-done c e =
      let y = accepted_is (counted (Ok c)) k _ (ap counted (sym e) ∙ f.answer) refl in
      let q : c ∷ [] ≡ u ∷ [] = y.1 in
      let v : c ≡ u = cc in
      record { answer = rw (y.0, v); output = f.output; workspace = f.workspace }

  pub aligned-refused : (m : Refusal) → s ≡ Err m → Says k (n ∷ u ∷ []) new n out work (aligned (Err m)) out' work'
  aligned-refused m e =
      let y = refused_is (number_of m) k u [] (ap counted (sym e) ∙ f.answer) in
      record { answer = refuses m k (n ∷ u ∷ []) (sym y.0); output = f.output; workspace = f.workspace }

-- ---- two outcomes of one call are equal

aligned-one : (r s : Result Aligned Refusal) → Same (aligned r) (aligned s) → r ≡ s
aligned-one = answered-one (λ a. a.states ∷ a.changes ∷ []) (λ a b e. let f : a.states ≡ b.states = cc in let g : a.changes ≡ b.changes = cc in ap (λ (n : ℕ). record { states = n; changes = a.changes }) f ∙ ap (λ (n : ℕ). record { states = b.states; changes = n }) g)

module _ (k : ℕ) (values new : List ℕ) (n : ℕ) (out work o₁ o₂ w₁ w₂ : List ℕ) where
  says-one : (a b : Answer) → Says k values new n out work a o₁ w₁ → Says k values new n out work b o₂ w₂ → (a ≡ b) × (o₁ ≡ o₂) × (w₁ ≡ w₂)
  says-one a b f g = (f.answer ∙ sym g.answer, f.output ∙ sym g.output, f.workspace ∙ sym g.workspace)

  fitted-says-one : (r s : Result ℕ Refusal) → Says k values new n out work (counted r) o₁ w₁ → Says k values new n out work (counted s) o₂ w₂ → (r ≡ s) × (o₁ ≡ o₂) × (w₁ ≡ w₂)
  fitted-says-one r s f g = let h = says-one (counted r) (counted s) f g in (counted-one r s (same h.0), h.1, h.2)

  aligned-says-one : (r s : Result Aligned Refusal) → Says k values new n out work (aligned r) o₁ w₁ → Says k values new n out work (aligned s) o₂ w₂ → (r ≡ s) × (o₁ ≡ o₂) × (w₁ ≡ w₂)
  aligned-says-one r s f g = let h = says-one (aligned r) (aligned s) f g in (aligned-one r s (same h.0), h.1, h.2)

module _ (ss : States) (x : Float) (out work o₁ o₂ w₁ w₂ : List ℕ) (r s : Result ℕ Refusal) where
  pub fit-says-one : FitSays ss x out work r o₁ w₁ → FitSays ss x out work s o₂ w₂ → (r ≡ s) × (o₁ ≡ o₂) × (w₁ ≡ w₂)
  fit-says-one f g = fitted-says-one _ _ _ _ out work o₁ o₂ w₁ w₂ r s f g

  pub speed-says-one : SpeedSays ss x out work r o₁ w₁ → SpeedSays ss x out work s o₂ w₂ → (r ≡ s) × (o₁ ≡ o₂) × (w₁ ≡ w₂)
  speed-says-one f g = fitted-says-one _ _ _ _ out work o₁ o₂ w₁ w₂ r s f g

pub align_says_one : (ss : States) (nstate : ℕ) (ends : List Float) (out work o₁ o₂ w₁ w₂ : List ℕ) (r s : Result Aligned Refusal) → AlignOnTime ss nstate ends out work r o₁ w₁ → AlignOnTime ss nstate ends out work s o₂ w₂ → (r ≡ s) × (o₁ ≡ o₂) × (w₁ ≡ w₂)
align_says_one ss nstate ends out work o₁ o₂ w₁ w₂ r s f g = aligned-says-one _ _ _ _ out work o₁ o₂ w₁ w₂ r s f.says g.says
