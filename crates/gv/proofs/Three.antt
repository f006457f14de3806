-- Laws of rows of width 3, which are multiplied by values without a loop.
use mathlib.Core.Path.{◌≡◌, ap, ◌∙◌}
use mathlib.Core.List.{List}
use Prim.Native.Nat.{ℕ, ◌+◌, ◌-◌, ◌*◌, ◌<◌, ◌≤◌}
use native.Mathlib.Omega.{arith}
use borrow.Author.Tests.{lt-ltb, le-leb}
use lib.ListN.{length}
use lib.Ieee.{Float, binary64, add, mul}
use Rattle.lists.specs.Build.{over}
use Rattle.lists.specs.Parts.{part}
use Rattle.lists.proofs.Regions.{cut-length}
use Rattle.region.specs.Rows.{elem, entry}
use Rattle.region.proofs.Readings.{part_elem}
use Rattle.gv.specs.Gv.{plus_right, plus_left, gradient_at}

pub three-gradient : (m : List Float) (rows values n t : ℕ) → 2 ≤ t → t + 2 < n → values + n ≤ length m
    → add binary64 (add binary64 (add binary64 (add binary64 (mul binary64 (elem m (rows + t * 3)) (elem m (values + t))) (mul binary64 (elem m (rows + t * 3 + 1)) (elem m (values + t + 1))))
    (mul binary64 (elem m (rows + t * 3 - 2)) (elem m (values + t - 1)))) (mul binary64 (elem m (rows + t * 3 + 2)) (elem m (values + t + 2)))) (mul binary64 (elem m (rows + t * 3 - 4)) (elem m (values + t - 2)))
    ≡ gradient_at 3 (part rows (n * 3) m) (part values n m) t
unfolding gradient_at over plus_right plus_left
three-gradient m rows values n t b h l =
    let A : List Float = part rows (n * 3) m in
    let P : List Float = part values n m in
    let long : length P ≡ n = cut-length values n m l in
    let entry_is : (x r j : ℕ) → r < n → j < 3 → x ≡ rows + (r * 3 + j) → elem m x ≡ entry 3 A r j = λ x r j a c o.
    ap (λ (i : ℕ). elem m i) o ∙ part_elem rows (n * 3) (r * 3 + j) m (omega arith) in
    let value_is : (x r : ℕ) → r < n → x ≡ values + r → elem m x ≡ elem P r = λ x r a o.
    ap (λ (i : ℕ). elem m i) o ∙ part_elem values n r m a in
    rw (
      entry_is (rows + t * 3) t 0 (omega arith) (omega arith) (omega arith),
      entry_is (rows + t * 3 + 1) t 1 (omega arith) (omega arith) (omega arith),
      entry_is (rows + t * 3 + 2) t 2 (omega arith) (omega arith) (omega arith),
      entry_is (rows + t * 3 - 2) (t - 1) 1 (omega arith) (omega arith) (omega arith),
      entry_is (rows + t * 3 - 4) (t - 2) 2 (omega arith) (omega arith) (omega arith),
      value_is (values + t) t (omega arith) (omega arith),
      value_is (values + t + 1) (t + 1) (omega arith) (omega arith),
      value_is (values + t + 2) (t + 2) (omega arith) (omega arith),
      value_is (values + t - 1) (t - 1) (omega arith) (omega arith),
      value_is (values + t - 2) (t - 2) (omega arith) (omega arith),
      long,
      lt-ltb (t + 1) n (omega arith),
      le-leb 1 t (omega arith),
      lt-ltb (t + 2) n (omega arith),
      le-leb 2 t (omega arith),
    )
