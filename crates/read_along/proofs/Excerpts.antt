-- A word's excerpt lies in the trajectory, is its states' excerpts, and those of all words are the trajectory.
use mathlib.Core.Path.{◌≡◌, refl, sym, ap, ◌∙◌}
use mathlib.Core.List.{List, [], ◌∷◌}
use Prim.Native.Nat.{ℕ, zero, suc, ◌+◌, ◌*◌, ◌≤◌, ◌<◌}
use native.Mathlib.Nat.{zero-mul, add-mul, mul-le-mul_right, add-sub_cancel_left}
use native.Mathlib.Numerals.{add-one}
use native.Mathlib.Omega.{arith}
use borrow.Author.Tests.{ltb-true}
use denote.Ref.{Bor}
use lib.Dec.{ltb}
use lib.Ieee.{Float}
use lib.ListN.{length, take, drop}
use lib.Seq.{take-add, take_all}
use Rattle.lists.specs.Build.{rows}
use Rattle.lists.proofs.Answers.{accepted_is}
use Rattle.lists.proofs.Refusals.{or_none, none_then}
use Rattle.lists.proofs.Joins.{rows_none, rows_next}
use Rattle.spool.specs.Refusal.{trajectory_refusal}
use Rattle.spool.specs.Promise.{ExcerptSays as StateSays}
use Rattle.spool.proofs.Excerpts.{excerpts_from as states-from}
use Rattle.std.proofs.Common.{Ok}
use Rattle.lists.specs.declared.Span.{Span as Part}
use Rattle.read_along.specs.Words.{states_before, states_of, first_frame, own_frames, span_of, excerpt_start, excerpt_count}
use Rattle.read_along.specs.Promise.{parted_as, words_refusal, excerpt_refusal, PartOfSays, ExcerptSays}
use Rattle.read_along.proofs.Frames.{states-next, states-within, first-none, first_next, first-within, first-end}
use Rattle.read_along.proofs.Refusing.{passed, timed_with, excerpt_0}

module _ (words : List ℕ) (nstate : ℕ) (ds : List ℕ) where
  -- a word's numbers begin with its first frame, and end with its last
  count_is : (v word : ℕ) → excerpt_count v (span_of words nstate ds word) ≡ own_frames words nstate ds word * v
  count_is v word = ap (λ (n : ℕ). n * v) (add-sub_cancel_left (first_frame words nstate ds word) (own_frames words nstate ds word))

  ends_with : (v word : ℕ) → word < length words → first_frame words nstate ds (word + 1) * v ≡ first_frame words nstate ds word * v + own_frames words nstate ds word * v
  ends_with v word h = ap (λ (n : ℕ). n * v) (first_next words nstate ds word h) ∙ add-mul (first_frame words nstate ds word) (own_frames words nstate ds word) v

  -- ---- an excerpt by its places

  module _ (t : Bor (List Float)) (v word : ℕ) (p : Part) (says : PartOfSays words nstate ds t.now v word (Ok p)) where
    told : (excerpt_refusal words nstate ds (length t.now) v word ≡ 0) × (p.first ≡ excerpt_start v (span_of words nstate ds word)) × (p.count ≡ excerpt_count v (span_of words nstate ds word))
    told =
        let a = accepted_is (parted_as (Ok p)) _ _ says refl in
        let l : p.first ∷ p.count ∷ [] ≡ excerpt_start v (span_of words nstate ds word) ∷ excerpt_count v (span_of words nstate ds word) ∷ [] = a.1 in
        (a.0, cc, cc)

    -- it lies in the trajectory
    pub part-fits : p.first + p.count ≤ length t.now
    part-fits =
        let z = or_none (words_refusal (trajectory_refusal (length t.now) ds v) words nstate ds) _ told.0 in
        let h : word < length words = ltb-true word (length words) (none_then (ltb word (length words)) 1 z.1) in
        let k = timed_with (length t.now) v words nstate ds z.0 in
        omega (arith, told.1, told.2, count_is v word, ends_with v word h, mul-le-mul_right v (first-within words nstate ds (word + 1)), k.1.agree)

    -- and is what `excerpt` hands back
    pub part-handed : (r : Bor (List Float)) → ExcerptSays words nstate ds t v word r → r.now ≡ take p.count (drop p.first t.now)
    part-handed r s = rw (told.1, told.2) (rw told.0 at s.numbers)

  -- ---- the excerpts of all words

  module _ (t : Bor (List Float)) (v : ℕ) (part : ℕ → Bor (List Float)) (says : (word : ℕ) → word < length words → ExcerptSays words nstate ds t v word (part word)) (e : words_refusal (trajectory_refusal (length t.now) ds v) words nstate ds ≡ 0) where
    -- one word's part is its frames' numbers
    own : (word : ℕ) → word < length words → (part word).now ≡ take (own_frames words nstate ds word * v) (drop (first_frame words nstate ds word * v) t.now)
    own word h =
        let s = (says word h).numbers in
        rw (excerpt_0 (length t.now) v words nstate ds word e h, add-sub_cancel_left (first_frame words nstate ds word) (own_frames words nstate ds word)) at s

    joined : (n : ℕ) → n ≤ length words → rows (λ i. (part i).now) n ≡ take (first_frame words nstate ds n * v) t.now
    joined zero h = rows_none (λ i. (part i).now) ∙ sym (ap (λ (n : ℕ). take (n * v) t.now) (first-none words nstate ds) ∙ ap (λ (n : ℕ). take n t.now) (zero-mul v))
    joined (suc n) h =
        let f : first_frame words nstate ds (suc n) * v ≡ first_frame words nstate ds n * v + own_frames words nstate ds n * v = rw add-one at (ends_with v n h) in
        rw add-one at (rows_next (λ i. (part i).now) n) ∙ rw (joined n (omega arith), own n h) (sym (ap (λ (k : ℕ). take k t.now) f ∙ take-add (first_frame words nstate ds n * v) (own_frames words nstate ds n * v) t.now))

    pub excerpts-join : rows (λ i. (part i).now) (length words) ≡ t.now
    excerpts-join =
        let k = timed_with (length t.now) v words nstate ds e in
        let f : first_frame words nstate ds (length words) * v ≡ length t.now = ap (λ (n : ℕ). n * v) (first-end words nstate ds k.0) ∙ sym k.1.agree in
        joined (length words) (omega arith) ∙ take_all (first_frame words nstate ds (length words) * v) t.now (omega arith)

    -- ---- a word's excerpt, by those of its states

    pub states-join : (state : ℕ → Bor (List Float)) → ((k : ℕ) → k < length ds → StateSays t ds v k (state k)) → (word : ℕ) → word < length words
        → rows (λ k. (state (states_before words nstate word + k)).now) (states_of words nstate word) ≡ (part word).now
    states-join state each word h =
        let k = timed_with (length t.now) v words nstate ds e in
        let l : states_before words nstate word + states_of words nstate word ≤ length ds = omega (arith, states-next words nstate ds word h, states-within words nstate ds k.0 (word + 1)) in
        states-from t ds v state each (passed (trajectory_refusal (length t.now) ds v) words nstate ds e).lower (states_before words nstate word) (states_of words nstate word) l ∙ sym (own word h)
