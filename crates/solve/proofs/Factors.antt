-- Laws of the factors and the substitutions: rows that are stored, and what a row looks back at.
use mathlib.Core.Path.{◌≡◌, refl, sym, ap, ◌∙◌}
use mathlib.Core.List.{List, [], ◌∷◌, ◌++◌, append_assoc, append-nil}
use Prim.Native.Nat.{ℕ, zero, suc, ◌+◌, ◌-◌, ◌*◌, ◌<◌, ◌≤◌}
use native.Mathlib.Nat.{add-zero, add-sub_cancel_left, suc-mul, zero-mul, le_refl}
use native.Mathlib.Numerals.{add-one}
use native.Mathlib.Omega.{arith}
use lib.ListN.{length, set, take, drop, length-append, length-set, get_or-append}
use lib.Seq.{sets, get_or-take, take-suc, take-length, length-take-le, drop_at, drop-cons, drop-length, set_at, set_comm}
use lib.Ieee.{Float, nan, binary64, div}
use Rattle.lists.specs.Build.{build}
use Rattle.lists.proofs.Fills.{build-length}
use Rattle.lists.proofs.Rows.{row_in}
use Rattle.region.specs.Rows.{elem, row}
use Rattle.lists.specs.Parts.{part}
use Rattle.solve.specs.Solve.{reach, reduced, factor_at, factor, forward_term, forward_at, forward, backward_at, backward, solution}
use Rattle.solve.proofs.Orders.{less-same}
use Rattle.region.proofs.Readings.{part_elem, read_under}
use Rattle.lists.proofs.Regions.{stored-behind, stored_rule}

-- ---- row t of the factors is stored behind the t rows at `factors` of M, from row t at `rows`

module _ (w rows factors t : ℕ) (M : List Float) where
  abbrev place : ℕ
  place = factors + t * w

  abbrev A : List Float
  A = part (rows + t * w) w M

  abbrev F : List Float
  F = part factors (t * w) M

  -- m is M with the first i numbers of the row, but for the pivot d, which is stored last
  pub record Filling (d : Float) (i : ℕ) (m : List Float) : Type 0 where
    pub some : 0 < i
    pub within : i ≤ w
    pub long : length m ≡ length M
    pub pivot : d ≡ reduced w (elem A 0) F t 0
    pub so_far : set m place d ≡ sets M place (build (factor_at w A F t) i)

  pub filling-first : (d : Float) → 0 < w → d ≡ reduced w (elem M (rows + t * w)) (part factors (place - factors) M) t 0 → Filling d 1 M
  unfolding build factor_at
  filling-first d pos e =
      let first : elem M (rows + t * w) ≡ elem A 0 = simp add-zero at (part_elem (rows + t * w) w 0 M pos) in
      let p : d ≡ reduced w (elem A 0) F t 0 = e ∙ rw (add-sub_cancel_left factors (t * w), first) in
      record { some = omega arith; within = pos; long = refl; pivot = p; so_far = ap (set M place) p }

  pub filling-next : rows + t * w + w ≤ factors → (m : List Float) (d x : Float) (i : ℕ) → Filling d i m → i < w
      → x ≡ reduced w (elem m (rows + t * w + i)) (part factors (place - factors) m) t i → Filling d (i + 1) (set m (place + i) (div binary64 x d))
  unfolding factor_at
  filling-next apart m d x zero k h e = absurd (omega (arith, k.some))
  filling-next apart m d x (suc j) k h e =
      let vs : List Float = build (factor_at w A F t) (suc j) in
      let at : ℕ = rows + t * w + suc j in
      let kept : part factors (t * w) m ≡ F = sym (stored-behind (d ∷ []) m factors (t * w) place (le_refl place)) ∙ ap (part factors (t * w)) k.so_far ∙ stored-behind vs M factors (t * w) place (le_refl place) in
      let read : elem m at ≡ elem A (suc j) =
      sym (read_under (d ∷ []) m place at (omega arith)) ∙ ap (λ (l : List Float). elem l at) k.so_far ∙ read_under vs M place at (omega arith) ∙ part_elem (rows + t * w) w (suc j) M h in
      let x-is : div binary64 x d ≡ factor_at w A F t (suc j) = rw (e, add-sub_cancel_left factors (t * w), kept, read, k.pivot) in
      record {
        some = omega arith;
        within = omega arith;
        long = rw length-set k.long;
        pivot = k.pivot;
        so_far = set_comm m (place + suc j) place (div binary64 x d) d (λ q. omega arith) ∙ stored_rule (factor_at w A F t) M (set m place d) place (suc j) (div binary64 x d) x-is k.so_far;
      }

-- ---- the factors

module _ (w : ℕ) (A : List Float) where
  pub factor-length : (t : ℕ) → length (factor w A t) ≡ t * w
  unfolding factor
  factor-length zero = sym (zero-mul w)
  factor-length (suc t) =
      simp length-append (omega (arith, factor-length t, build-length (factor_at w (row w A t) (factor w A t) t) w, suc-mul t w))

  pub factor-next : (t : ℕ) → factor w A (t + 1) ≡ factor w A t ++ build (factor_at w (row w A t) (factor w A t) t) w
  unfolding factor
  factor-next t = rw add-one

-- ---- forward substitution

module _ (w : ℕ) (F r : List Float) where
  pub forward-length : (t : ℕ) → length (forward w F r t) ≡ t
  unfolding forward
  forward-length zero = refl
  forward-length (suc t) = simp length-append (omega (arith, forward-length t))

  pub forward-next : (t : ℕ) → forward w F r (t + 1) ≡ forward w F r t ++ (forward_at w F (elem r t) (forward w F r t) t ∷ [])
  unfolding forward
  forward-next t = rw add-one

-- it looks back at the rows before t only
pub forward-more : (w : ℕ) (F X r : List Float) (t k : ℕ) → k * w ≤ length F → t ≤ k + 1 → forward w (F ++ X) r t ≡ forward w F r t
unfolding forward
forward-more w F X r zero k h l = refl
forward-more w F X r (suc t) k h l =
    let g : List Float = forward w F r t in
    rw (
      forward-more w F X r t k h (omega arith),
      less-same (elem r t) (forward_term w (F ++ X) g t) (forward_term w F g t) (reach w t)
          (λ j b. rw (get_or-append F X nan ((t - (j + 1)) * w + (j + 1)) (omega (arith, row_in w (t - (j + 1)) k (j + 1) (omega arith) (omega arith))))),
    )

-- ---- backward substitution, in place: g has the values from t + 1 on

pub backward-length : (w : ℕ) (F : List Float) (t : ℕ) (g : List Float) → length (backward w F t g) ≡ length g
unfolding backward
backward-length w F t [] = refl
backward-length w F t (x ∷ g) = ap suc (backward-length w F (suc t) g)

-- there are as many values as numbers on the right side
pub solution-length : (w : ℕ) (A r : List Float) → length (solution w A r) ≡ length r
unfolding solution
solution-length w A r = let F = factor w A (length r) in backward-length w F 0 (forward w F r (length r)) ∙ forward-length w F r (length r)

pub backward-next : (w : ℕ) (F d g : List Float) (t : ℕ) → t < length d → g ≡ take (t + 1) d ++ backward w F (t + 1) (drop (t + 1) d)
    → set g t (backward_at w F (elem g t) (drop (t + 1) g) t) ≡ take t d ++ backward w F t (drop t d)
unfolding backward
backward-next w F d g t h e =
    let R : List Float = backward w F (t + 1) (drop (t + 1) d) in
    let q : List Float = take (t + 1) d in
    let lq : length q ≡ t + 1 = length-take-le (t + 1) d (omega arith) in
    let e₁ : elem g t ≡ elem d t = rw e (get_or-append q R nan t (omega arith) ∙ get_or-take (t + 1) d t nan (omega arith)) in
    let e₂ : drop (t + 1) g ≡ R = rw e (drop_at q R (t + 1) lq) in
    rw (e₁, e₂, e, add-one, take-suc d t nan, append_assoc, set_at (take t d) (elem d t) (backward w F (suc t) (drop (suc t) d)) _ t (length-take-le t d (omega arith)), drop-cons d t nan)

pub backward-none : (w : ℕ) (F d : List Float) (n : ℕ) → length d ≡ n → d ≡ take n d ++ backward w F n (drop n d)
unfolding backward
backward-none w F d n e = rw (← e, take-length d, drop-length d, append-nil d)
