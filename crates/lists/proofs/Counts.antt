-- How many of some frames are voiced, or switched.
use mathlib.Core.Path.{◌≡◌, refl, ap}
use mathlib.Core.Bool.{Bool, true, false}
use mathlib.Core.List.{List, [], ◌∷◌, ◌++◌}
use Prim.Native.Nat.{ℕ, zero, suc, ◌+◌, ◌≤◌}
use native.Mathlib.Omega.{arith}
use lib.ListN.{length, replicate}
use Rattle.lists.specs.Flags.{flag}
use Rattle.lists.specs.Frames.{select, count}

pub count-first : (b : Bool) (bs : List Bool) → count (b ∷ bs) ≡ flag b + count bs
unfolding count
count-first true bs = omega arith
count-first false bs = omega arith

pub count-append : (cs bs : List Bool) → count (cs ++ bs) ≡ count cs + count bs
unfolding count
count-append [] bs = omega arith
count-append (true ∷ cs) bs = omega (arith, count-append cs bs)
count-append (false ∷ cs) bs = count-append cs bs

pub count-all : (d : ℕ) → count (replicate d true) ≡ d
unfolding count
count-all zero = refl
count-all (suc d) = ap suc (count-all d)

pub count_none : (d : ℕ) → count (replicate d false) ≡ 0
unfolding count
count_none zero = refl
count_none (suc d) = count_none d

pub count_most : (bs : List Bool) → count bs ≤ length bs
unfolding count
count_most [] = omega arith
count_most (true ∷ bs) = omega (arith, count_most bs)
count_most (false ∷ bs) = omega (arith, count_most bs)

pub select-length : {A : Type 0} (bs : List Bool) (xs : List A) → length xs ≡ length bs → length (select bs xs) ≡ count bs
unfolding select count
select-length [] xs e = refl
select-length (true ∷ bs) [] e = absurd (omega arith)
select-length (false ∷ bs) [] e = absurd (omega arith)
select-length (true ∷ bs) (x ∷ xs) e = ap suc (select-length bs xs (omega arith))
select-length (false ∷ bs) (x ∷ xs) e = select-length bs xs (omega arith)
