-- What was written is read back, and what is read is a timing file.
use mathlib.Core.Path.{◌≡◌, refl, sym, ap, ◌∙◌}
use mathlib.Core.List.{List, [], ◌∷◌, ◌++◌}
use Prim.Native.Nat.{ℕ, ◌+◌, ◌*◌, ◌<◌}
use native.Mathlib.Omega.{arith}
use lib.ListN.{length, take, drop}
use lib.Seq.{take_at}
use Rattle.lists.specs.Bytes.{Bytes}
use Rattle.lists.specs.Answers.{Answer, accepting}
use Rattle.lists.proofs.Refusals.{or_none, none_then}
use Rattle.lists.proofs.Answers.{accepted_is}
use Rattle.std.proofs.Common.{Result, Ok}
use Rattle.read_along.specs.declared.WordsRefusal.{WordsRefusal}
use Rattle.read_along.specs.Words.{spans_of}
use Rattle.read_along.specs.Format.{spans_in, formed, bytes_of_file}
use Rattle.read_along.specs.Promise.{timing_refusal, file_refusal, room_refusal, Writes, all_ends, SpansSays, WriteSays, ReadSays}
use Rattle.read_along.specs.Laws.{Writable, TimingFile}
use Rattle.read_along.proofs.Frames.{first_next, first-within}
use Rattle.read_along.proofs.Covering.{span-at, words-touch}
use Rattle.read_along.proofs.Refusing.{timed}
use Rattle.read_along.proofs.Lengths.{spans-count, ends-long}
use Rattle.read_along.proofs.Files.{formed-file, file-formed}

-- an accepted call that writes: nothing was refused, and the answer is in front
writes_accepted : (first value : ℕ) (answer out : List ℕ) (n : ℕ) (out' : List ℕ) → Writes first value answer out (accepting (n ∷ [])) out' → (first ≡ 0) × (n ≡ value) × (out' ≡ answer ++ drop (length answer) out)
writes_accepted first value answer out n out' w =
    let a = accepted_is (accepting (n ∷ [])) (room_refusal first answer out) (value ∷ []) w.counts refl in
    let e : n ∷ [] ≡ value ∷ [] = a.1 in
    ((or_none first _ a.0).0, cc, w.output ∙ rw a.0)

-- the same of the same numbers
writes_same : (first first' value value' : ℕ) (answer answer' out : List ℕ) (r : Answer) (out' : List ℕ) → first ≡ first' → value ≡ value' → answer ≡ answer' → Writes first value answer out r out' → Writes first' value' answer' out r out'
writes_same first first' value value' answer answer' out r out' f v a w = rw (f, v, a) at w

-- ---- words' spans fit into a file

spans-writable : (words : List ℕ) (nstate : ℕ) (ds : List ℕ) → timing_refusal words nstate ds ≡ 0 → Writable (spans_of words nstate ds)
spans-writable words nstate ds e =
    let t = timed words nstate ds e in
    record {
      few = omega (arith, spans-count words nstate ds, t.few);
      each = λ i h.
          let l : i < length words = omega (arith, spans-count words nstate ds) in
          rw (span-at words nstate ds i l) (omega (arith, first-within words nstate ds i, t.short), omega (arith, first_next words nstate ds i l, first-within words nstate ds (i + 1), t.short));
    }

-- ---- what was written

module _ (words : List ℕ) (nstate : ℕ) (ds out out' : List ℕ) (n : ℕ) (wrote : WriteSays words nstate ds out (Ok n) out') where
  abbrev file : List ℕ
  file = bytes_of_file (spans_of words nstate ds)

  was : (timing_refusal words nstate ds ≡ 0) × (n ≡ length file) × (out' ≡ file ++ drop (length file) out)
  was = writes_accepted (timing_refusal words nstate ds) (length file) file out n out' wrote

  -- the first n bytes are the file of the words
  pub write_file : TimingFile (take n out') (spans_of words nstate ds)
  write_file = record {
    writable = spans-writable words nstate ds was.0;
    touch = words-touch words nstate ds;
    spelled = ap (take n) was.2 ∙ take_at file (drop (length file) out) n (sym was.1);
  }

  -- reading them says what `spans` would, whatever room there is
  pub written_read : (spans : List ℕ) (r : Result ℕ WordsRefusal) (spans' : List ℕ) → ReadSays (take n out') spans r spans' → SpansSays words nstate ds spans r spans'
  written_read spans r spans' reads =
      let f = file-formed (take n out') (spans_of words nstate ds) write_file in
      let k : file_refusal (take n out') ≡ 0 = rw f.0 in
      writes_same _ _ _ _ _ _ spans _ spans' (k ∙ sym was.0) (ap length f.1 ∙ spans-count words nstate ds) (ap all_ends f.1) reads

-- ---- what is read

pub read-file : (bytes : List ℕ) → Bytes bytes → (spans : List ℕ) (n : ℕ) (spans' : List ℕ) → ReadSays bytes spans (Ok n) spans'
    → (n ≡ length (spans_in bytes)) × TimingFile bytes (spans_in bytes) × (spans' ≡ all_ends (spans_in bytes) ++ drop (2 * n) spans)
read-file bytes b spans n spans' reads =
    let w = writes_accepted (file_refusal bytes) (length (spans_in bytes)) (all_ends (spans_in bytes)) spans n spans' reads in
    let l : length (all_ends (spans_in bytes)) ≡ 2 * n = ends-long (spans_in bytes) ∙ ap (λ (m : ℕ). 2 * m) (sym w.1) in
    (w.1, formed-file bytes b (none_then (formed bytes) 2 w.0), w.2 ∙ ap (λ (m : ℕ). all_ends (spans_in bytes) ++ drop m spans) l)
