-- Laws of clamped variances: what a clamp says of the inverse, and how many there are.
use mathlib.Core.Path.{◌≡◌, refl, sym, ap, ◌∙◌}
use mathlib.Core.Bool.{Bool, true, false, cond}
use mathlib.Core.List.{List, [], ◌∷◌, map}
use Prim.Native.Nat.{ℕ, suc, ◌+◌, ◌<◌, ◌≤◌}
use native.Mathlib.Numerals.{add-one}
use native.Mathlib.Omega.{arith}
use lib.ListN.{length, drop, get_or, length-map, drop_of_length-le}
use lib.Seq.{drop-cons}
use lib.Ieee.{Float, nan, binary64, of_bits, lt, div}
use Rattle.lists.specs.Flags.{flag}
use Rattle.lists.specs.Frames.{count}
use Rattle.lists.proofs.Counts.{count-first, count_most}
use Rattle.floats.specs.Numbers.{nought, one}
use Rattle.floats.specs.Order.{abs_of}
use Rattle.floats.proofs.Strict.{lt_asym, above-size}
use Rattle.model.specs.declared.mean_vari.Clamp.{Clamp}
use Rattle.model.specs.declared.mean_vari.Clamp.TheVariants.{High, Low, No}
use Rattle.model.specs.Pair.{high_bound, low_bound, largest_ivar, ivar_of, clamp_of, inverse_by}
use Rattle.model.specs.Record.{means_of, varis_of, from_linear}
use Rattle.model.specs.Clamps.{is_high, is_low, variances_of, clamped_in}
use Rattle.model.proofs.Records.{halves, pairs-varis}

-- ---- neither above nor below

module _ (v size : Float) (e : size ≡ abs_of v) where
  pub clamp_no : lt high_bound size ≡ false → lt size low_bound ≡ false → No ≡ clamp_of v
  unfolding clamp_of
  clamp_no h l = rw (← e, h, l)

-- ---- a variance between the bounds is not clamped

between-size : (v : Float) → lt low_bound v ≡ true → abs_of v ≡ v
unfolding of_bits
between-size v h = above-size _ _ v h

pub between_no : (v : Float) → lt low_bound v ≡ true → lt v high_bound ≡ true → No ≡ clamp_of v
between_no v l h =
    let e : v ≡ abs_of v = sym (between-size v l) in
    clamp_no v v e (lt_asym v high_bound h) (lt_asym low_bound v l)

-- ---- what a clamp says of the inverse

tied_by : (h l : Bool) (v : Float) → inverse_by (cond h High (cond l Low No)) v ≡ cond h nought (cond l largest_ivar (div binary64 one v))
tied_by true l v = refl
tied_by false true v = refl
tied_by false false v = refl

pub tied : (v : Float) → inverse_by (clamp_of v) v ≡ ivar_of v
unfolding clamp_of ivar_of
tied v = tied_by (lt high_bound (abs_of v)) (lt (abs_of v) low_bound) v

-- NaN is neither above nor below a bound
pub nan_no : clamp_of nan ≡ No
unfolding clamp_of abs_of lt of_bits
nan_no = refl

-- ---- how many are clamped

clamped-first : (so : Clamp → Bool) (v : Float) (vs : List Float) → clamped_in so (v ∷ vs) ≡ flag (so (clamp_of v)) + clamped_in so vs
unfolding clamped_in
clamped-first so v vs = count-first (so (clamp_of v)) (map (λ (x : Float). so (clamp_of x)) vs)

module _ (so : Clamp → Bool) (vs : List Float) where
  pub clamped-most : clamped_in so vs ≤ length vs
  unfolding clamped_in
  clamped-most = omega (arith, count_most (map (λ (v : Float). so (clamp_of v)) vs), length-map vs (λ (v : Float). so (clamp_of v)))

  -- a loop has come to variance i, and counted n of those before it
  abbrev pub Counted : ℕ → ℕ → Type 0
  Counted i n = n + clamped_in so (drop i vs) ≡ clamped_in so vs

  module _ (i n : ℕ) (k : Counted i n) where
    next : i < length vs → clamped_in so (drop i vs) ≡ flag (so (clamp_of (get_or vs i nan))) + clamped_in so (drop (i + 1) vs)
    next h = rw (drop-cons vs i nan h, add-one) (clamped-first so (get_or vs i nan) (drop (suc i) vs))

    module _ (h : i < length vs) (c : Clamp) (e : c ≡ clamp_of (get_or vs i nan)) (m : ℕ) (f : m ≡ flag (so c)) where
      pub counted_next : Counted (i + 1) (n + m)
      counted_next = let q : m ≡ flag (so (clamp_of (get_or vs i nan))) = f ∙ ap (λ (x : Clamp). flag (so x)) e in omega (arith, k, next h, q)

      pub counted-few : n + m ≤ length vs
      counted-few = omega (arith, counted_next, clamped-most)

    -- one that isn't clamped adds nothing
    pub counted_no : i < length vs → so No ≡ false → No ≡ clamp_of (get_or vs i nan) → Counted (i + 1) n
    counted_no h z e = omega (arith, counted_next h No e 0 (ap flag (sym z)))

    pub counted-all : length vs ≤ i → n ≡ clamped_in so vs
    unfolding clamped_in count
    counted-all h = let z : clamped_in so (drop i vs) ≡ 0 = rw (drop_of_length-le vs h) in omega (arith, k, z)

-- no variance is clamped both ways
one_way : (c : Clamp) → flag (is_high c) + flag (is_low c) ≤ 1
one_way High = omega arith
one_way Low = omega arith
one_way No = omega arith

pub clamped-apart : (vs : List Float) → clamped_in is_high vs + clamped_in is_low vs ≤ length vs
unfolding clamped_in count
clamped-apart [] = omega arith
clamped-apart (v ∷ vs) = omega (arith, clamped-first is_high v vs, clamped-first is_low v vs, one_way (clamp_of v), clamped-apart vs)

-- a record's variances are the second half of its flat list
pub variances_are : (lin : List Float) → variances_of (from_linear lin) ≡ varis_of lin
unfolding from_linear
variances_are lin = pairs-varis (means_of lin) (varis_of lin) (halves lin)
