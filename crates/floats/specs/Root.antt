-- The square root of a float, correctly rounded.
use Rattle.std.specs.Prelude.{ℕ, zero, suc, ◌+◌, ◌-◌, ◌*◌, ◌/◌, ◌^◌, ◌≤◌, ◌<◌, true, false, cond, T, leb, Float}
use Rattle.std.specs.Float.{nan, inf, fin, binary64}
use Rattle.std.specs.Float.Ieee.{up, down, size, round, fits}
use Rattle.std.specs.Float.Ieee.Exact.{HasValue}

-- the largest r with r * r ≤ n, for an n below 4 ^ k, by its binary digits
unfoldable pub root_below : ℕ → ℕ → ℕ
root_below zero n = 0
root_below (suc k) n = let r = 2 * root_below k (n / 4) in cond (leb ((r + 1) * (r + 1)) n) (r + 1) r

-- the whole number nearest to the square root of an n below 4 ^ 53. No n lies half way: (r + 1/2) * (r + 1/2) is r * r + r + 1/4.
unfoldable pub nearest_root : ℕ → ℕ
unfolding root_below
nearest_root n = let r = root_below 53 n in cond (leb n (r * r + r)) r (r + 1)

-- x above zero is a / 2 ^ 1178, and n * 2 ^ (2 * w) / 2 ^ 1178 with an n of 105 or 106 digits, so its root is that of n times 2 ^ w / 2 ^ 589
unfoldable pub sqrt_of : Float → Float
unfolding nearest_root size round
sqrt_of nan = nan
sqrt_of (inf true) = nan
sqrt_of (inf false) = inf false
sqrt_of (fin s zero e) = fin s zero e
sqrt_of (fin true (suc m) e) = nan
sqrt_of (fin false (suc m) e) =
    let a = suc m * up e * 2 ^ 1178 / down e in
    let w = (size a - 105) / 2 in
    round binary64 false (nearest_root (a / 2 ^ (2 * w)) * 2 ^ w) (2 ^ 589)

-- The exact claim of a correctly rounded root. x above zero is n * 2 ^ (2 * w) / 2 ^ 1178 with an n of 105 or 106 digits, and r is q * 2 ^ w / 2 ^ 589
-- with a q of 53. The root of n lies between q - 1/2 and q + 1/2, said by squares of whole numbers. It is 2 ^ 52 at least, where the format's values
-- are a unit apart, so r is the nearest of them, and no root lies half way.
pub record Rooted (x r : Float) : Type 0 where
  pub n : ℕ
  pub q : ℕ
  pub w : ℕ
  pub value : HasValue x false (n * 2 ^ (2 * w)) (2 ^ 1178)
  pub wide : 2 ^ 104 ≤ n
  pub narrow : n < 2 ^ 106
  pub root : HasValue r false (q * 2 ^ w) (2 ^ 589)
  pub full : 2 ^ 52 ≤ q
  pub short : q < 2 ^ 53
  pub under : (2 * q - 1) * (2 * q - 1) < 4 * n
  pub over : 4 * n < (2 * q + 1) * (2 * q + 1)

-- r is nearest to the root of x among the format's values: the middle between r and any other value lies on that value's side of the root. In units
-- of 2 ^ -1074 r is k and the other value is l; x is j of their squares.
pub record Closest (x r : Float) : Type 0 where
  pub j : ℕ
  pub k : ℕ
  pub value : HasValue x false j (2 ^ 2148)
  pub root : HasValue r false k (2 ^ 1074)
  pub under : (y : Float) (l : ℕ) → T (fits binary64 y) → HasValue y false l (2 ^ 1074) → l < k → (l + k) * (l + k) < 4 * j
  pub over : (y : Float) (l : ℕ) → T (fits binary64 y) → HasValue y false l (2 ^ 1074) → k < l → 4 * j < (l + k) * (l + k)
