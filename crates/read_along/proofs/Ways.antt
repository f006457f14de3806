-- The ways out of the calls.
use mathlib.Core.Path.{◌≡◌, refl, ◌∙◌}
use mathlib.Core.List.{List, [], ◌∷◌}
use Prim.Native.Nat.{ℕ, ◌+◌, ◌≤◌, ◌<◌}
use native.Mathlib.Omega.{arith}
use lib.Ieee.{Float}
use lib.ListN.{length}
use lib.Seq.{sets, sets-eq}
use Rattle.lists.specs.Totals.{total}
use Rattle.lists.specs.Answers.{accepting, refusing}
use Rattle.lists.proofs.Answers.{accepted, in_front}
use Rattle.spool.specs.Refusal.{trajectory_refusal}
use Rattle.std.proofs.Common.{Ok, Some}
use Rattle.read_along.specs.Words.{span_of, excerpt_start, excerpt_count}
use Rattle.read_along.specs.Promise.{words_refusal, timing_refusal, at_refusal, room_refusal, Writes, AtSays, PartOfSays}
use Rattle.read_along.specs.Inner.Steps.{FoundAt}
use Rattle.read_along.proofs.Frames.{first_next, first-within}
use Rattle.read_along.proofs.Refusing.{at_0, excerpt_0, room_4, room_0}

-- a call that writes: refused for want of room, and done
module _ (first value : ℕ) (answer out : List ℕ) where
  pub writes_short : first ≡ 0 → length out < length answer → Writes first value answer out (refusing 4) out
  writes_short e h = let q = room_4 first answer out e h in record { counts = rw q; output = rw q }

  pub writes_done : (out' : List ℕ) (n : ℕ) → first ≡ 0 → length answer ≤ length out → out' ≡ sets out 0 answer → n ≡ value → Writes first value answer out (accepting (n ∷ [])) out'
  writes_done out' n e h s v =
      let z : room_refusal first answer out ≡ 0 = room_0 first answer out e h in
      let o : 0 + length answer ≡ length answer = omega arith in
      record {
        counts = accepted (room_refusal first answer out) (n ∷ []) (value ∷ []) z (rw v);
        output = s ∙ sets-eq answer out 0 (omega arith) ∙ rw o (in_front (room_refusal first answer out) (length answer) answer answer out z refl refl);
      }

-- the word at a frame, once it is found
pub at-found : (words : List ℕ) (nstate : ℕ) (ds : List ℕ) (frame : ℕ) → timing_refusal words nstate ds ≡ 0 → (r : ℕ) → FoundAt words nstate ds frame (Some r) → AtSays words nstate ds frame (Ok r)
at-found words nstate ds frame none r found =
    let s : frame < total ds = omega (arith, found.1.still, first_next words nstate ds r found.0, first-within words nstate ds (r + 1)) in
    let q : at_refusal words nstate ds frame ≡ 0 = at_0 words nstate ds frame none s in
    record { word = r; answer = accepted _ _ _ q refl; sounds = λ n. found }

-- a word's excerpt by its numbers
module _ (words : List ℕ) (nstate : ℕ) (ds : List ℕ) (trajectory : List Float) (v word : ℕ) where
  abbrev numbers : ℕ
  numbers = length trajectory

  abbrev before : ℕ
  before = words_refusal (trajectory_refusal numbers ds v) words nstate ds

  pub part-done : before ≡ 0 → word < length words → (first count : ℕ) → first ≡ excerpt_start v (span_of words nstate ds word) → count ≡ excerpt_count v (span_of words nstate ds word)
      → PartOfSays words nstate ds trajectory v word (Ok (record { first = first; count = count }))
  part-done none h first count f c = accepted _ _ _ (excerpt_0 numbers v words nstate ds word none h) (rw (f, c))
