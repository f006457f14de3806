-- Bytes are those of the number that they say, and numbers that are bytes.
use mathlib.Core.Path.{◌≡◌, refl}
use mathlib.Core.List.{List, [], ◌∷◌, ◌++◌}
use Prim.Native.Nat.{ℕ, zero, suc, ◌+◌, ◌*◌, ◌/◌, ◌%◌, ◌^◌, ◌<◌, ◌≤◌}
use native.Mathlib.Nat.{lt_of_lt_of_le}
use native.Mathlib.Omega.{arith}
use lib.Pow.{pow-add, pow_mono}
use lib.ListN.{length, take, drop, get_or, length-take, length-drop}
use lib.Seq.{get_or-drop, length-take-le}
use Rattle.lists.specs.Bytes.{little, bytes_of, Bytes, word_at}

pub bytes-little : (bs : List ℕ) → ((i : ℕ) → get_or bs i 0 < 256) → bytes_of (length bs) (little bs) ≡ bs
unfolding little bytes_of
bytes-little [] p = refl
bytes-little (b ∷ bs) p =
    let h : b < 256 = p 0 in
    let r : (b + 256 * little bs) % 256 ≡ b = omega arith in
    let q : (b + 256 * little bs) / 256 ≡ little bs = omega arith in
    rw (r, q, bytes-little bs (λ i. p (suc i)))

pub little-below : (bs : List ℕ) → ((i : ℕ) → get_or bs i 0 < 256) → little bs < 2 ^ (8 * length bs)
unfolding little
little-below [] p = omega arith
little-below (b ∷ bs) p =
    let h : b < 256 = p 0 in
    let l = little-below bs (λ i. p (suc i)) in
    let a : 8 * suc (length bs) ≡ 8 * length bs + 8 = omega arith in
    let e : 2 ^ (8 * length bs + 8) ≡ 2 ^ (8 * length bs) * 256 = pow-add 2 (8 * length bs) 8 in
    rw (a, e) (omega arith)

take-bytes : (k : ℕ) (bs : List ℕ) → ((i : ℕ) → get_or bs i 0 < 256) → (i : ℕ) → get_or (take k bs) i 0 < 256
take-bytes zero bs p i = omega arith
take-bytes (suc k) [] p i = omega arith
take-bytes (suc k) (b ∷ bs) p zero = p 0
take-bytes (suc k) (b ∷ bs) p (suc i) = take-bytes k bs (λ j. p (suc j)) i

-- k bytes from a place on
module _ (bs : List ℕ) (p : (i : ℕ) → get_or bs i 0 < 256) (at k : ℕ) (h : at + k ≤ length bs) where
  part_bytes : (i : ℕ) → get_or (take k (drop at bs)) i 0 < 256
  part_bytes = take-bytes k (drop at bs) (λ i. rw (get_or-drop at bs i 0) (p (at + i)))

  part-long : length (take k (drop at bs)) ≡ k
  part-long = length-take-le k (drop at bs) (rw (length-drop) (omega arith))

  pub part-spelled : bytes_of k (little (take k (drop at bs))) ≡ take k (drop at bs)
  part-spelled = rw part-long at (bytes-little (take k (drop at bs)) part_bytes)

  pub part-below : little (take k (drop at bs)) < 2 ^ (8 * k)
  part-below = rw part-long at (little-below (take k (drop at bs)) part_bytes)

-- ---- each number is a byte

pub bytes-append : (xs ys : List ℕ) → Bytes xs → Bytes ys → Bytes (xs ++ ys)
bytes-append [] ys p q i = q i
bytes-append (x ∷ xs) ys p q zero = p 0
bytes-append (x ∷ xs) ys p q (suc i) = bytes-append xs ys (λ k. p (suc k)) q i

pub bytes_of_lem : (k n : ℕ) → Bytes (bytes_of k n)
unfolding bytes_of
bytes_of_lem zero n i = omega arith
bytes_of_lem (suc k) n zero = omega arith
bytes_of_lem (suc k) n (suc i) = bytes_of_lem k (n / 256) i

-- k bytes, or fewer, say a number of so many
pub some_below : (bs : List ℕ) → Bytes bs → (at k : ℕ) → little (take k (drop at bs)) < 2 ^ (8 * k)
some_below bs p at k =
    let part : List ℕ = take k (drop at bs) in
    let l : length part ≤ k = simp length-take (omega arith) in
    let q : 8 * length part ≤ 8 * k = omega arith in
    lt_of_lt_of_le (little-below part (take-bytes k (drop at bs) (λ i. rw (get_or-drop at bs i 0) (p (at + i))))) (pow_mono q)

pub word_below : (bs : List ℕ) → Bytes bs → (at : ℕ) → word_at bs at < 65536
word_below bs p at = some_below bs p at 2
