-- The promises of the calls that write a record: how each is kept, and that any two outcomes it allows are equal.
use mathlib.Core.Path.{◌≡◌, sym, ap, ◌∙◌}
use mathlib.Core.List.{List, ◌++◌, map}
use Prim.Native.Nat.{ℕ, ◌+◌, ◌-◌, ◌*◌, ◌/◌, ◌≤◌}
use native.Mathlib.Omega.{arith}
use borrow.Author.Tests.{le-ltb}
use lib.ListN.{length, take, drop, length-map, length-drop}
use lib.Seq.{sets, sets-eq, take_all, drop_at}
use borrow.Rule.Slice.PartMut.{put_mid}
use lib.Ieee.{Float}
use Rattle.std.proofs.Common.{Result, Ok}
use Rattle.lists.specs.declared.Refusal.{Refusal}
use Rattle.lists.proofs.Ends.{refused-one}
use Rattle.model.specs.Promise.{MulSays, MulAddSays}
use Rattle.model.specs.Record.{means_of, varis_of, rest_of}
use Rattle.model.specs.Mixing.{more_by}
use Rattle.model.proofs.Records.{means-length, varis-length}
use Rattle.model.proofs.Scaling.{times, scaled-flat}
use Rattle.model.proofs.Adding.{more, added-flat, shorter_length, xy_over, third_is, all_three}

-- where a contract is one equation
pub answer-one : {A : Type 0} {v r s : A} → r ≡ v → s ≡ v → r ≡ s
answer-one e d = e ∙ sym d

pub mul-one : {lin out : List Float} {w : Float} {r s : Result (Unit {0}) Refusal} {out' out'' : List Float} → MulSays lin w out r out' → MulSays lin w out s out'' → (r ≡ s) × (out' ≡ out'')
mul-one {r = r} {s = s} a b = (refused-one r s (answer-one a.answer b.answer), answer-one a.output b.output)

pub mul-add-one : {lhs rhs : List Float} {w : Float} {out out' : List Float} → MulAddSays lhs w rhs out → MulAddSays lhs w rhs out' → out ≡ out'
mul-add-one a b = answer-one a.output b.output

module _ (lin : List Float) (w : Float) (out : List Float) where
  pub mul-done : (out' : List Float) → length lin ≤ length out → out' ≡ sets out 0 (map (times w) lin) → MulSays lin w out (Ok tt) out'
  mul-done out' h e =
      let n : length (map (times w) lin) ≡ length lin = length-map lin (times w) in
      let z : 0 + length (map (times w) lin) ≡ length (map (times w) lin) = omega arith in
      record {
        answer = rw (le-ltb (length out) (length lin) h);
        output = rw (le-ltb (length out) (length lin) h, scaled-flat w lin) (e ∙ sets-eq (map (times w) lin) out 0 (omega arith) ∙ rw z);
      }

-- means, variances and weight, each part of lhs with the same part of rhs
module _ (l r : List Float) (w : Float) where
  abbrev n : ℕ
  n = length l / 2

  abbrev m : ℕ
  m = length r / 2

  module _ (x y z : List Float) (a : x ≡ more w (take n l) (take m r)) (b : y ≡ more w (take (2 * n - n) (drop n (x ++ drop n l))) (take (2 * m - m) (drop m r))) where
    first-length : length x ≡ n
    first-length = ap length a ∙ shorter_length (more_by w) (means_of l) (means_of r) ∙ means-length l

    second-part : y ≡ more w (varis_of l) (varis_of r)
    second-part =
        let t : 2 * n - n ≡ n = omega arith in
        let u : 2 * m - m ≡ m = omega arith in
        b ∙ rw (t, u, drop_at x (drop n l) n first-length)

    second-length : length y ≡ n
    second-length = ap length second-part ∙ shorter_length (more_by w) (varis_of l) (varis_of r) ∙ varis-length l

    pub mul-add_done : let s = xy_over l x y n in z ≡ more w (take (length s - 2 * n) (drop (2 * n) s)) (take (length r - 2 * m) (drop (2 * m) r)) → MulAddSays l w r (put_mid (2 * n) (length s - 2 * n) s z)
    mul-add_done c =
        let t : length (rest_of r) ≤ length r - 2 * m = rw length-drop (omega arith) in
        let p : z ≡ more w (rest_of l) (rest_of r) = c ∙ rw (third_is l x y n first-length second-length, take_all (length r - 2 * m) (rest_of r) t) in
        record { output = all_three l x y n first-length second-length z ∙ rw (a, second-part, p, added-flat w l r) }
