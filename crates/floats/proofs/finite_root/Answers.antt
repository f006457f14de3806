use mathlib.Core.Path.{◌≡◌, sym, ap, ◌∙◌, subst}
use Prim.Native.Nat.{ℕ, ◌*◌, ◌/◌, ◌%◌, ◌^◌, ◌≤◌, ◌<◌}
use native.Mathlib.Omega.{arith}
use native.Mathlib.Nat.{mod-eq_of_lt, lt_of_le_of_lt, lt_of_lt_of_le, le_of_eq}
use lib.Dec.{lit≤}
use lib.Pow.{pow_mono}
use lib.Ieee.{binary64, of_bits}
use Rattle.floats.proofs.Fields.{not_of}
use Rattle.floats.proofs.Roots.{D-short, q-full, q-short, radicand, root_of_scaled, rooted, rooted-bits, rooted_no_nan}
use Rattle.floats.specs.Root.{nearest_root}
use Rattle.floats.specs.Inner.Scaled.{IsScaled}
use Rattle.floats.proofs.finite_root.Goals as goal
use Rattle.floats.proofs.finite_root.Goals.{After-nearest_root-root, After-scale_of-s}

-- what `scale_of` gives: the digits and the scale
module _ (c : After-scale_of-s) where
  abbrev d : ℕ
  d = c.scale_of-s.result.digits

  abbrev k : ℕ
  k = c.scale_of-s.result.scale

  scaled : IsScaled (of_bits binary64 c.args.bits) d k
  scaled = c.scale_of-s.ensures

  short : d * 2 ^ (k % 2) < 2 ^ 54
  short = D-short d k scaled.full scaled.short

  exact : (d * 2 ^ (k % 2)) % 2 ^ 64 ≡ d * 2 ^ (k % 2)
  exact = mod-eq_of_lt (lt_of_lt_of_le short (pow_mono (lit≤ {m = 54} {n = 64} tt)))

-- and the root
module _ (c : After-nearest_root-root) where
  abbrev s : After-scale_of-s
  s = c.before.before

  abbrev q : ℕ
  q = c.nearest_root-root.result

  is : q ≡ nearest_root (radicand (d s) (k s))
  is = c.nearest_root-root.ensures ∙ ap (λ (z : ℕ). nearest_root (z * 2 ^ 52)) (exact s)

  full : 2 ^ 52 ≤ q
  full = subst (λ (z : ℕ). 2 ^ 52 ≤ z) (sym is) (q-full (d s) (k s) (scaled s).full (scaled s).short)

  few : q < 2 ^ 53
  few = subst (λ (z : ℕ). z < 2 ^ 53) (sym is) (q-short (d s) (k s) (scaled s).full (scaled s).short)

  near : k s / 2 < 1050
  near = omega (arith, (scaled s).near)

pub nearest_root-root-requires : goal.nearest_root-root-requires
nearest_root-root-requires c = lt_of_le_of_lt (le_of_eq (exact (goal.at.nearest_root-root-requires c).After-scale_of-s)) (short (goal.at.nearest_root-root-requires c).After-scale_of-s)

pub overflow_add-result-2 : goal.overflow_add-result-2
overflow_add-result-2 c = omega (arith, near (goal.at.overflow_add-result-2 c).After-nearest_root-root, few (goal.at.overflow_add-result-2 c).After-nearest_root-root)

pub float_from_bits-result : goal.float_from_bits-result
float_from_bits-result c = not_of (rooted_no_nan (q (goal.at.float_from_bits-result c).After-nearest_root-root) (k (s (goal.at.float_from_bits-result c).After-nearest_root-root) / 2) (full (goal.at.float_from_bits-result c).After-nearest_root-root) (few (goal.at.float_from_bits-result c).After-nearest_root-root) (near (goal.at.float_from_bits-result c).After-nearest_root-root))

pub returns : goal.returns
returns c =
    rooted-bits (q (goal.at.returns c).After-nearest_root-root) (k (s (goal.at.returns c).After-nearest_root-root) / 2) (full (goal.at.returns c).After-nearest_root-root) (few (goal.at.returns c).After-nearest_root-root) (near (goal.at.returns c).After-nearest_root-root)
    ∙ ap (λ (z : ℕ). rooted z (k (s (goal.at.returns c).After-nearest_root-root) / 2)) (is (goal.at.returns c).After-nearest_root-root)
    ∙ sym (root_of_scaled (of_bits binary64 (s (goal.at.returns c).After-nearest_root-root).args.bits) (d (s (goal.at.returns c).After-nearest_root-root)) (k (s (goal.at.returns c).After-nearest_root-root)) (scaled (s (goal.at.returns c).After-nearest_root-root)))
