-- Laws of numbers and their bytes.
use mathlib.Core.Path.{◌≡◌, refl, sym, ap, ◌∙◌}
use mathlib.Core.List.{List, [], ◌∷◌, ◌++◌}
use mathlib.Core.Logic.{⊎_elim}
use Prim.Native.Nat.{ℕ, zero, suc, ◌+◌, ◌-◌, ◌*◌, ◌/◌, ◌%◌, ◌^◌, ◌<◌, ◌≤◌, min}
use native.Mathlib.Nat.{lt_of_lt_of_le}
use native.Mathlib.Numerals.{add-one}
use native.Mathlib.Omega.{arith}
use lib.Pow.{pow-add, pow_mono}
use lib.ListN.{length, take, drop, get_or, set, drop_of_length-le}
use lib.Seq.{sets, drop-cons, drop-length, take-nil, take_at, drop_at}
use Rattle.lists.specs.Bytes.{little, bytes_of}
use Rattle.lists.proofs.Numbers.{le_or_lt}
use Rattle.lists.proofs.Stores.{sets-past}

pub bytes-length : (k n : ℕ) → length (bytes_of k n) ≡ k
unfolding bytes_of
bytes-length zero n = refl
bytes-length (suc k) n = ap suc (bytes-length k (n / 256))

-- one byte more
more : (n b q : ℕ) → b < 256 → n < 2 ^ (8 * q) → n * 256 + b < 2 ^ (8 * (q + 1))
more n b q h l =
    let a : 8 * (q + 1) ≡ 8 * q + 8 = omega arith in
    let e : 2 ^ (8 * q + 8) ≡ 2 ^ (8 * q) * 256 = pow-add 2 (8 * q) 8 in
    rw (a, e) (omega arith)

-- a number of k bytes is what its bytes say
pub little-bytes : (k n : ℕ) → n < 2 ^ (8 * k) → little (bytes_of k n) ≡ n
unfolding little bytes_of
little-bytes zero n h = omega arith
little-bytes (suc k) n h =
    let a : 8 * suc k ≡ 8 * k + 8 = omega arith in
    let e : 2 ^ (8 * k + 8) ≡ 2 ^ (8 * k) * 256 = pow-add 2 (8 * k) 8 in
    let l : n < 2 ^ (8 * k) * 256 = rw (a, e) at h in
    omega (arith, little-bytes k (n / 256) (omega arith))

-- so too where they stand behind others and before others
pub little-at : (p q : List ℕ) (o k n : ℕ) → length p ≡ o → n < 2 ^ (8 * k) → little (take k (drop o (p ++ (bytes_of k n ++ q)))) ≡ n
little-at p q o k n e h = ap (λ (l : List ℕ). little (take k l)) (drop_at p (bytes_of k n ++ q) o e) ∙ ap little (take_at (bytes_of k n) q k (bytes-length k n)) ∙ little-bytes k n h

-- four bytes that are there, one by one
module _ (bytes : List ℕ) where
  byte_first : (i j k : ℕ) → i < length bytes → suc i ≡ j → take (suc k) (drop i bytes) ≡ get_or bytes i 0 ∷ take k (drop j bytes)
  byte_first i j k h e = ap (take (suc k)) (drop-cons bytes i 0 h) ∙ ap (λ (n : ℕ). get_or bytes i 0 ∷ take k (drop n bytes)) e

  pub four_bytes : (at : ℕ) → at + 4 ≤ length bytes → take 4 (drop at bytes) ≡ get_or bytes at 0 ∷ get_or bytes (at + 1) 0 ∷ get_or bytes (at + 2) 0 ∷ get_or bytes (at + 3) 0 ∷ []
  four_bytes at h =
      let b : ℕ → ℕ = λ i. get_or bytes i 0 in
      byte_first at (at + 1) 3 (omega arith) (omega arith)
      ∙ ap (λ (l : List ℕ). b at ∷ l) (byte_first (at + 1) (at + 2) 2 (omega arith) (omega arith)
      ∙ ap (λ (l : List ℕ). b (at + 1) ∷ l) (byte_first (at + 2) (at + 3) 1 (omega arith) (omega arith)
      ∙ ap (λ (l : List ℕ). b (at + 2) ∷ l) (byte_first (at + 3) (at + 4) 0 (omega arith) (omega arith))))

-- a number's four bytes are stored, one by one
pub four-stored : (s : List ℕ) (at n : ℕ) → set (set (set (set s at (n % 256)) (at + 1) (n / 256 % 256)) (at + 2) (n / 65536 % 256)) (at + 3) (n / 16777216 % 256) ≡ sets s at (bytes_of 4 n)
unfolding bytes_of
four-stored s at n =
    let two : at + 2 ≡ suc (suc at) = omega arith in
    let three : at + 3 ≡ suc (suc (suc at)) = omega arith in
    let b : n / 65536 ≡ n / 256 / 256 = omega arith in
    let c : n / 16777216 ≡ n / 256 / 256 / 256 = omega arith in
    rw (add-one at, two, three, b, c)

-- no bytes say 0
pub little-past : (bytes : List ℕ) (at w : ℕ) → length bytes ≤ at → 0 ≡ little (take w (drop at bytes))
unfolding little
little-past bytes at w h = rw (drop_of_length-le bytes h, take-nil)

-- ---- a number read from its last byte to its first: those from i on are read

pub record Reading (bytes : List ℕ) (i number : ℕ) : Type 0 where
  pub said : number ≡ little (drop i bytes)
  pub small : number < 2 ^ (8 * (length bytes - i))

pub reading : (bytes : List ℕ) → Reading bytes (length bytes) 0
unfolding little
reading bytes = let z : length bytes - length bytes ≡ 0 = omega arith in record { said = rw (drop-length bytes); small = rw z (omega arith) }

module _ {bytes : List ℕ} {i number : ℕ} (k : Reading bytes i number) (h : 0 < i) (g : i ≤ length bytes) where
  pub reading-next : (b : ℕ) → b < 256 → b ≡ get_or bytes (i - 1) 0 → Reading bytes (i - 1) (number * 256 + b)
  unfolding little
  reading-next b s e =
      let n : suc (i - 1) ≡ i = omega arith in
      let q : length bytes - (i - 1) ≡ length bytes - i + 1 = omega arith in
      let d : drop (i - 1) bytes ≡ b ∷ drop i bytes = drop-cons bytes (i - 1) 0 (omega arith) ∙ rw (n, e) in
      let w : little (drop (i - 1) bytes) ≡ b + 256 * little (drop i bytes) = ap little d in
      record { said = omega (arith, k.said); small = rw q (more number b (length bytes - i) s k.small) }

  -- and it fits
  pub reading-fits : length bytes ≤ 8 → (number * 256 + 255 < 2 ^ 64) × (number * 256 < 2 ^ 64)
  reading-fits m =
      let q : 8 * (length bytes - i + 1) ≤ 64 = omega arith in
      let l : number * 256 + 255 < 2 ^ 64 = lt_of_lt_of_le (more number 255 (length bytes - i) (omega arith) k.small) (pow_mono q) in
      (l, omega arith)

-- ---- a number written from its first byte to its last: what is stored, with the rest, is the whole

pub record Writing (whole s : List ℕ) (at width i rest : ℕ) : Type 0 where
  pub left : sets s (at + i) (bytes_of (width - i) rest) ≡ whole

pub writing : (s : List ℕ) (at width number : ℕ) → Writing (sets s at (bytes_of width number)) s at width 0 number
writing s at width number = let z : width - 0 ≡ width = omega arith in let o : at + 0 ≡ at = omega arith in record { left = rw (z, o) }

module _ {whole s : List ℕ} {at width i rest : ℕ} (k : Writing whole s at width i rest) where
  pub writing-next : i < width → Writing whole (set s (at + i) (rest % 256)) at width (i + 1) (rest / 256)
  unfolding bytes_of
  writing-next h =
      let q : width - i ≡ suc (width - (i + 1)) = omega arith in
      let o : at + (i + 1) ≡ suc (at + i) = omega arith in
      record { left = rw o (rw q at k.left) }

  pub writing-done : min width (length s - at) ≤ i → s ≡ whole
  unfolding bytes_of
  writing-done h = ⊎_elim
      (λ (g : length s ≤ at + i). sym (sets-past (bytes_of (width - i) rest) s (at + i) g) ∙ k.left)
      (λ (g : at + i < length s). let z : width - i ≡ 0 = omega arith in rw z at k.left)
      (le_or_lt (length s) (at + i))
