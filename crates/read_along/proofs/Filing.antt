-- A timing file as it is written, looked at and read.
use mathlib.Core.Path.{◌≡◌, refl, sym, ap, ◌∙◌}
use mathlib.Core.Bool.{true, false, not, ◌&&◌, ◌||◌}
use mathlib.Core.List.{List, [], ◌∷◌, ◌++◌}
use Prim.Native.Nat.{ℕ, ◌+◌, ◌*◌, ◌≤◌, ◌<◌, zero-le}
use native.Mathlib.Numerals.{add-one}
use native.Mathlib.Omega.{arith}
use borrow.Author.Tests.{eq-eqb, ne_eqb, ltb-false, ltb-true, le-leb, lt-leb, not-false}
use lib.Dec.{leb, ltb, eqb}
use lib.ListN.{length, take, drop, get_or, drop_of_length-le}
use lib.Seq.{sets, drop-cons}
use Rattle.lists.specs.Build.{rows}
use Rattle.lists.specs.Bytes.{Bytes, bytes_of, starts_with}
use Rattle.lists.proofs.Flags.{neither}
use Rattle.lists.proofs.Stores.{sets_behind}
use Rattle.lists.proofs.Bytes.{bytes-length}
use Rattle.lists.proofs.Spelled.{some_below}
use Rattle.lists.proofs.Fills.{build-length}
use Rattle.lists.proofs.Builds.{build-at}
use Rattle.lists.proofs.Joins.{rows_none, rows-stored, flatten_build}
use Rattle.read_along.specs.Words.{span, spans_of}
use Rattle.read_along.specs.Format.{mark, version, version_of, number_at, count_of, head_bytes, span_bytes, span_at, spans_in, touching, formed, bytes_of_span, bytes_of_spans, bytes_of_heading, bytes_of_file}
use Rattle.read_along.specs.Promise.{both_ends, all_ends, file_refusal}
use Rattle.read_along.proofs.Lengths.{spans-count, heading-long}

-- ---- numbers one behind the other

pub span-written : (out a b : List ℕ) (at first after : ℕ) → a ≡ sets out at (bytes_of 4 first) → b ≡ sets a (at + 4) (bytes_of 4 after) → b ≡ sets out at (bytes_of_span (span first after))
span-written out a b at first after e f = f ∙ sets_behind (bytes_of 4 first) (bytes_of 4 after) out a at (at + 4) e (omega (arith, bytes-length 4 first))

pub heading-written : (out a b c : List ℕ) (count : ℕ) → a ≡ sets out 0 (take 3 mark) → b ≡ sets a 3 (bytes_of 2 version) → c ≡ sets b 5 (bytes_of 4 count) → c ≡ sets out 0 (bytes_of_heading count)
unfolding bytes_of_heading
heading-written out a b c count e f g = g ∙ sets_behind (bytes_of 2 version) (bytes_of 4 count) a b 3 5 f (omega (arith, bytes-length 2 version)) ∙ sets_behind mark (bytes_of 2 version ++ bytes_of 4 count) out a 0 3 e refl

pub file-written : (words : List ℕ) (nstate : ℕ) (ds out a b : List ℕ) → a ≡ sets out 0 (bytes_of_heading (length words)) → b ≡ sets a head_bytes (bytes_of_spans (spans_of words nstate ds)) → b ≡ sets out 0 (bytes_of_file (spans_of words nstate ds))
unfolding bytes_of_file
file-written words nstate ds out a b e f =
    f ∙ sets_behind (bytes_of_heading (length words)) (bytes_of_spans (spans_of words nstate ds)) out a 0 head_bytes e (omega (arith, heading-long (length words)))
    ∙ ap (λ (n : ℕ). sets out 0 (bytes_of_heading n ++ bytes_of_spans (spans_of words nstate ds))) (sym (spans-count words nstate ds))

module _ (bytes : List ℕ) where
  -- ---- the spans of a file

  -- a number of it has 32 bits
  pub number-below : Bytes bytes → (n at : ℕ) → n ≡ number_at bytes at → n < 4294967296
  number-below b n at e = omega (arith, some_below bytes b at 4)

  pub in_count : length (spans_in bytes) ≡ count_of bytes
  unfolding spans_in
  in_count = build-length (span_at bytes) (count_of bytes)

  pub in_at : (i : ℕ) → i < count_of bytes → get_or (spans_in bytes) i (span 0 0) ≡ span_at bytes i
  unfolding spans_in
  in_at i h = build-at (span_at bytes) (count_of bytes) i (span 0 0) h

  in_next : (i : ℕ) → i < count_of bytes → drop i (spans_in bytes) ≡ span_at bytes i ∷ drop (i + 1) (spans_in bytes)
  in_next i h = drop-cons (spans_in bytes) i (span 0 0) (omega (arith, in_count)) ∙ rw (in_at i h, add-one)

  in_none : (i : ℕ) → count_of bytes ≤ i → drop i (spans_in bytes) ≡ []
  in_none i h = drop_of_length-le (spans_in bytes) {i = i} (omega (arith, in_count))

  -- ---- a pass that looks whether they touch: those before i do, and the last of them ends at a frame

  pub record Touching (end i : ℕ) : Type 0 where
    pub within : i ≤ count_of bytes
    pub rest : touching end (drop i (spans_in bytes)) ≡ touching 0 (spans_in bytes)

  module _ {end i : ℕ} (k : Touching end i) where
    module _ (h : i < count_of bytes) (first after : ℕ) (f : first ≡ number_at bytes (head_bytes + span_bytes * i)) (a : after ≡ number_at bytes (head_bytes + span_bytes * i + 4)) where
      here : touching 0 (spans_in bytes) ≡ (eqb first end && (leb end after && touching after (drop (i + 1) (spans_in bytes))))
      unfolding touching
      here = sym k.rest ∙ rw (in_next i h, ← f, ← a)

      pub touch-next : not (eqb first end) || ltb after end ≡ false → Touching after (i + 1)
      touch-next t =
          let n = neither (not (eqb first end)) (ltb after end) t in
          record { within = omega arith; rest = sym (here ∙ rw (not-false (eqb first end) n.0, le-leb end after (ltb-false after end n.1))) }

      pub touch-stops : not (eqb first end) || ltb after end ≡ true → false ≡ touching 0 (spans_in bytes)
      touch-stops t =
          sym (here ∙ (elim (eqb first end) as (λ s. not s || ltb after end ≡ true → (s && (leb end after && touching after (drop (i + 1) (spans_in bytes)))) ≡ false) [
            | true ↦ λ q. rw (lt-leb end after (ltb-true after end q))
            | false ↦ λ q. refl
          ])
          t)

    pub touch-done : count_of bytes ≤ i → true ≡ touching 0 (spans_in bytes)
    unfolding touching
    touch-done h = sym (ap (touching end) (in_none i h)) ∙ k.rest

  -- ---- whether it is well formed

  pub not_marked : starts_with mark bytes ≡ false → false ≡ formed bytes
  unfolding formed
  not_marked e = rw e

  module _ (m : starts_with mark bytes ≡ true) (v : ℕ) (w : v ≡ version_of bytes) where
    pub other-version : (v ≡ 1 → ⊥) → false ≡ formed bytes
    unfolding formed
    other-version e = rw (m, ← w, ne_eqb v 1 e)

    module _ (one : v ≡ 1) (n : ℕ) (c : n ≡ count_of bytes) where
      pub other_length : (length bytes ≡ head_bytes + span_bytes * n → ⊥) → false ≡ formed bytes
      unfolding formed
      other_length e = rw (m, ← w, eq-eqb v 1 one, ← c, ne_eqb (length bytes) (head_bytes + span_bytes * n) e)

      pub as_touching : length bytes ≡ head_bytes + span_bytes * n → touching 0 (spans_in bytes) ≡ formed bytes
      unfolding formed
      as_touching e = rw (m, ← w, eq-eqb v 1 one, ← c, eq-eqb (length bytes) (head_bytes + span_bytes * n) e)

  pub formed_0 : formed bytes ≡ true → file_refusal bytes ≡ 0
  formed_0 e = rw e

  -- ---- a pass that takes them: those before i are stored

  abbrev row : ℕ → List ℕ
  row i = both_ends (span_at bytes i)

  pub record Taking (spans₀ spans : List ℕ) (i : ℕ) : Type 0 where
    pub within : i ≤ count_of bytes
    pub so_far : spans ≡ sets spans₀ 0 (rows row i)

  pub taking : (spans₀ : List ℕ) → Taking spans₀ spans₀ 0
  taking spans₀ = record { within = zero-le; so_far = rw (rows_none row) }

  module _ {spans₀ spans : List ℕ} {i : ℕ} (k : Taking spans₀ spans i) where
    pub taking-next : i < count_of bytes → (first after : ℕ) → first ≡ number_at bytes (head_bytes + span_bytes * i) → after ≡ number_at bytes (head_bytes + span_bytes * i + 4) → (spans' : List ℕ)
        → spans' ≡ sets spans (2 * i) (both_ends (span first after)) → Taking spans₀ spans' (i + 1)
    taking-next h first after f a spans' s = record { within = omega arith; so_far = rows-stored row 2 i 0 (2 * i) spans₀ spans spans' (λ t. refl) k.so_far (omega arith) (s ∙ rw (f, a)) }

    pub taking-done : count_of bytes ≤ i → spans ≡ sets spans₀ 0 (all_ends (spans_in bytes))
    unfolding spans_in
    taking-done h =
        let z : i ≡ count_of bytes = omega (arith, k.within) in
        k.so_far ∙ ap (λ (n : ℕ). sets spans₀ 0 (rows row n)) z ∙ ap (sets spans₀ 0) (sym (flatten_build both_ends (span_at bytes) (count_of bytes)))
