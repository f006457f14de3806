-- The timing file from both sides: the spans that a file says, and the file that says them.
use mathlib.Core.Path.{◌≡◌, refl, sym, ap, ◌∙◌}
use mathlib.Core.Bool.{true}
use mathlib.Core.List.{List, [], ◌∷◌, ◌++◌, append_assoc, append-nil}
use Prim.Native.Nat.{ℕ, zero, suc, ◌+◌, ◌*◌, ◌^◌, ◌≤◌, ◌<◌}
use native.Mathlib.Nat.{mul_comm}
use native.Mathlib.Omega.{arith}
use borrow.Author.Tests.{le-leb, leb-true, eq-eqb, eqb-true}
use lib.Dec.{leb, eqb}
use lib.ListN.{length, take, drop, length-drop, take-append-drop, drop_of_length-le}
use lib.Seq.{take-add, drop-drop}
use Rattle.lists.specs.Build.{rows}
use Rattle.lists.specs.Parts.{part}
use Rattle.lists.specs.Bytes.{Bytes, little, bytes_of, starts_with}
use Rattle.lists.proofs.Flags.{both}
use Rattle.lists.proofs.Bytes.{bytes-length, little-at}
use Rattle.lists.proofs.Spelled.{part-spelled, part-below}
use Rattle.lists.proofs.Fronts.{starts_is, is_starts}
use Rattle.lists.proofs.Builds.{build_is}
use Rattle.lists.proofs.Joins.{part-part, part-joined, part-behind, rows-own, rows_cut, rows_same, flatten_rows, flatten_build}
use Rattle.read_along.specs.Words.{Span, span}
use Rattle.read_along.specs.Format.{mark, version, version_of, number_at, count_of, head_bytes, span_bytes, span_at, spans_in, touching, formed, bytes_of_span, bytes_of_spans, bytes_of_heading, bytes_of_file}
use Rattle.read_along.specs.Laws.{at, Touch, Writable, TimingFile}
use Rattle.read_along.proofs.Lengths.{span-long, heading-long, file-long}
use Rattle.read_along.proofs.Filing.{in_count, in_at}

-- ---- words that touch, from a frame on

-- the three tests of a word
head_touches : (a : ℕ) (s : Span) (ss : List Span) → touching a (s ∷ ss) ≡ true → (s.first ≡ a) × (a ≤ s.after) × (touching s.after ss ≡ true)
unfolding touching
head_touches a s ss e =
    let p = both (eqb s.first a) _ e in
    let q = both (leb a s.after) _ p.1 in
    (eqb-true s.first a p.0, leb-true a s.after q.0, q.1)

from_there : (a : ℕ) (ss : List Span) → touching a ss ≡ true → 0 < length ss → (at ss 0).first ≡ a
from_there a [] e h = absurd (omega arith)
from_there a (s ∷ ss) e h = (head_touches a s ss e).0

next-there : (a : ℕ) (ss : List Span) → touching a ss ≡ true → (i : ℕ) → suc i < length ss → (at ss (suc i)).first ≡ (at ss i).after
next-there a [] e i h = absurd (omega arith)
next-there a (s ∷ ss) e zero h = from_there s.after ss (head_touches a s ss e).2 (omega arith)
next-there a (s ∷ ss) e (suc i) h = next-there s.after ss (head_touches a s ss e).2 i (omega arith)

forth-there : (a : ℕ) (ss : List Span) → touching a ss ≡ true → (i : ℕ) → i < length ss → (at ss i).first ≤ (at ss i).after
forth-there a [] e i h = absurd (omega arith)
forth-there a (s ∷ ss) e zero h = let t = head_touches a s ss e in omega (arith, t.0, t.1)
forth-there a (s ∷ ss) e (suc i) h = forth-there s.after ss (head_touches a s ss e).2 i (omega arith)

pub touching-touch : (ss : List Span) → touching 0 ss ≡ true → Touch ss
touching-touch ss e = record { from_0 = from_there 0 ss e; next = next-there 0 ss e; forth = forth-there 0 ss e }

touching-from : (a : ℕ) (ss : List Span) → (0 < length ss → (at ss 0).first ≡ a) → ((i : ℕ) → suc i < length ss → (at ss (suc i)).first ≡ (at ss i).after) → ((i : ℕ) → i < length ss → (at ss i).first ≤ (at ss i).after) → touching a ss ≡ true
unfolding touching
touching-from a [] from next forth = refl
touching-from a (s ∷ ss) from next forth =
    let e : s.first ≡ a = from (omega arith) in
    let l : s.first ≤ s.after = forth 0 (omega arith) in
    rw (eq-eqb s.first a e, le-leb a s.after (omega arith))
    (touching-from s.after ss (λ h. next 0 (omega arith)) (λ i h. next (suc i) (omega arith)) (λ i h. forth (suc i) (omega arith)))

pub touch-touching : (ss : List Span) → Touch ss → touching 0 ss ≡ true
touch-touching ss t = touching-from 0 ss t.from_0 t.next t.forth

-- ---- a file that was written

-- a span is read from its own bytes
module _ (bytes : List ℕ) (o : ℕ) (s : Span) (e : part o span_bytes bytes ≡ bytes_of_span s) where
  first-own : s.first < 2 ^ 32 → number_at bytes o ≡ s.first
  first-own h =
      let z : o + 0 ≡ o = omega arith in
      ap (number_at bytes) (sym z) ∙ ap little (sym (part-part o span_bytes 0 4 bytes (omega arith))) ∙ ap (λ (l : List ℕ). number_at l 0) e ∙ little-at [] (bytes_of 4 s.after) 0 4 s.first refl h

  after-own : s.after < 2 ^ 32 → number_at bytes (o + 4) ≡ s.after
  after-own h =
      ap little (sym (part-part o span_bytes 4 4 bytes (omega arith))) ∙ ap (λ (l : List ℕ). number_at l 4) e
      ∙ rw append-nil at (little-at (bytes_of 4 s.first) [] 4 4 s.after (bytes-length 4 s.first) h)

module _ (ss : List Span) where
  abbrev file : List ℕ
  file = bytes_of_file ss

  -- its parts in order
  file-parts : file ≡ mark ++ (bytes_of 2 version ++ (bytes_of 4 (length ss) ++ bytes_of_spans ss))
  unfolding bytes_of_file bytes_of_heading
  file-parts = ap (λ (l : List ℕ). mark ++ l) (append_assoc (bytes_of 2 version) (bytes_of 4 (length ss)) (bytes_of_spans ss))

  marked : starts_with mark file ≡ true
  marked = is_starts mark file (ap (take 3) file-parts)

  version-back : version_of file ≡ version
  version-back = ap version_of file-parts ∙ little-at mark (bytes_of 4 (length ss) ++ bytes_of_spans ss) 3 2 version refl (omega arith)

  span-part : (i : ℕ) → i < length ss → part (head_bytes + span_bytes * i) span_bytes file ≡ bytes_of_span (at ss i)
  unfolding bytes_of_file bytes_of_spans
  span-part i h =
      let row : ℕ → List ℕ = λ j. bytes_of_span (at ss j) in
      part-behind (bytes_of_heading (length ss)) (bytes_of_spans ss) head_bytes (head_bytes + span_bytes * i) (span_bytes * i) span_bytes (heading-long (length ss)) refl
      ∙ ap (part (span_bytes * i) span_bytes) (flatten_rows bytes_of_span (span 0 0) ss)
      ∙ ap (λ (o : ℕ). part o span_bytes (rows row (length ss))) (mul_comm span_bytes i)
      ∙ rows-own row span_bytes (length ss) i h (λ j g. span-long (at ss j))

  module _ (k : Writable ss) where
    count-back : count_of file ≡ length ss
    count-back =
        let l : length (mark ++ bytes_of 2 version) ≡ 5 = omega (arith, bytes-length 2 version) in
        ap count_of file-parts ∙ little-at (mark ++ bytes_of 2 version) (bytes_of_spans ss) 5 4 (length ss) l (omega (arith, k.few))

    span-back : (i : ℕ) → i < length ss → span_at file i ≡ at ss i
    span-back i h =
        let o : ℕ = head_bytes + span_bytes * i in
        rw (first-own file o (at ss i) (span-part i h) (k.each i h).0, after-own file o (at ss i) (span-part i h) (k.each i h).1)

    -- it says these spans
    pub written_back : spans_in file ≡ ss
    unfolding spans_in
    written_back = rw count-back (sym (build_is (span_at file) (length ss) ss (span 0 0) refl (λ i h. sym (span-back i h))))

    -- and is accepted where they touch
    pub written-formed : Touch ss → formed file ≡ true
    unfolding formed
    written-formed t =
        let l : length file ≡ head_bytes + span_bytes * count_of file = file-long ss ∙ ap (λ (n : ℕ). head_bytes + span_bytes * n) (sym count-back) in
        rw (marked, eq-eqb (version_of file) version version-back, eq-eqb (length file) (head_bytes + span_bytes * count_of file) l, written_back) (touch-touching ss t)

-- ---- a file that is accepted

-- it has passed the tests
tests : (bytes : List ℕ) → formed bytes ≡ true → (starts_with mark bytes ≡ true) × (version_of bytes ≡ version) × (length bytes ≡ head_bytes + span_bytes * count_of bytes) × (touching 0 (spans_in bytes) ≡ true)
unfolding formed
tests bytes z =
    let a = both (starts_with mark bytes) _ z in
    let b = both (eqb (version_of bytes) version) _ a.1 in
    let c = both (eqb (length bytes) (head_bytes + span_bytes * count_of bytes)) _ b.1 in
    (a.0, eqb-true (version_of bytes) version b.0, eqb-true (length bytes) (head_bytes + span_bytes * count_of bytes) c.0, c.1)

-- so its words touch
read-touch : (bytes : List ℕ) → formed bytes ≡ true → Touch (spans_in bytes)
read-touch bytes z = touching-touch (spans_in bytes) (tests bytes z).3

module _ (bytes : List ℕ) where
  abbrev n : ℕ
  n = count_of bytes

  module _ (b : Bytes bytes) (z : formed bytes ≡ true) where
    long : length bytes ≡ head_bytes + span_bytes * n
    long = (tests bytes z).2

    -- where a span begins
    abbrev from : ℕ → ℕ
    from i = head_bytes + span_bytes * i

    -- the file has room for what it says
    pub read-writable : Writable (spans_in bytes)
    read-writable = record {
      few = let l : n < 2 ^ 32 = part-below bytes b 5 4 (omega (arith, long)) in omega (arith, in_count bytes);
      each = λ i h. let g : i < n = rw (in_count bytes) at h in rw (in_at bytes i g) (part-below bytes b (from i) 4 (omega (arith, long)), part-below bytes b (from i + 4) 4 (omega (arith, long)));
    }

    -- a span's bytes are those of what they say
    span-spelled : (i : ℕ) → i < n → part (from i) span_bytes bytes ≡ bytes_of_span (span_at bytes i)
    span-spelled i h = take-add 4 4 (drop (from i) bytes) ∙ rw (drop-drop 4 (from i) bytes, part-spelled bytes b (from i) 4 (omega (arith, long)), part-spelled bytes b (from i + 4) 4 (omega (arith, long)))

    spans-spelled : bytes_of_spans (spans_in bytes) ≡ drop head_bytes bytes
    unfolding bytes_of_spans spans_in
    spans-spelled =
        let body : List ℕ = drop head_bytes bytes in
        let e : drop (n * span_bytes) body ≡ [] = drop_of_length-le body {i = n * span_bytes} (simp length-drop (omega (arith, long))) in
        flatten_build bytes_of_span (span_at bytes) n
        ∙ rows_same (λ i. bytes_of_span (span_at bytes i)) (λ i. part (i * span_bytes) span_bytes body) n
        (λ i h. sym (ap (take span_bytes) (drop-drop (i * span_bytes) head_bytes bytes) ∙ ap (λ (o : ℕ). part (head_bytes + o) span_bytes bytes) (mul_comm i span_bytes) ∙ span-spelled i h))
        ∙ rw (e, append-nil) at (rows_cut span_bytes n body)

    -- it is the file of its spans, byte for byte
    pub rewritten : bytes_of_file (spans_in bytes) ≡ bytes
    rewritten =
        file-parts (spans_in bytes)
        ∙ rw (in_count bytes, spans-spelled, ← (tests bytes z).1, part-spelled bytes b 5 4 (omega (arith, long)), part-joined 5 4 9 bytes refl, part-spelled bytes b 3 2 (omega (arith, long)), part-joined 3 2 5 bytes refl)
        (ap (λ (l : List ℕ). l ++ drop 3 bytes) (sym (starts_is mark bytes (tests bytes z).0)) ∙ take-append-drop 3 bytes)

-- ---- both directions

pub formed-file : (bytes : List ℕ) → Bytes bytes → formed bytes ≡ true → TimingFile bytes (spans_in bytes)
formed-file bytes b z = record { writable = read-writable bytes b z; touch = read-touch bytes z; spelled = sym (rewritten bytes b z) }

pub file-formed : (bytes : List ℕ) (ss : List Span) → TimingFile bytes ss → (formed bytes ≡ true) × (spans_in bytes ≡ ss)
file-formed bytes ss f = rw f.spelled (written-formed ss f.writable f.touch, written_back ss f.writable)
