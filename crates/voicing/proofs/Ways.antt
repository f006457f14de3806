-- The ways out of the mask's calls, and that each promise allows one outcome.
use mathlib.Core.Path.{◌≡◌, refl, sym, ap, ◌∙◌}
use mathlib.Core.Bool.{true, false, cond}
use mathlib.Core.List.{List, [], ◌∷◌, ◌++◌, map}
use mathlib.Core.Logic.{⊎_elim}
use Prim.Native.Nat.{ℕ, ◌<◌, ◌≤◌, min}
use native.Mathlib.Omega.{arith}
use borrow.Author.Tests.{ltb-false, lt-ltb, le-ltb, eqb-true, eq-eqb, ne_eqb}
use lib.ListN.{length, take, drop, length-map}
use lib.Seq.{take_at}
use lib.Dec.{ltb, eqb}
use lib.Ieee.{Float}
use Rattle.lists.specs.Totals.{total}
use Rattle.lists.specs.Refusals.{or_else}
use Rattle.lists.proofs.Numbers.{le_or_lt}
use Rattle.lists.proofs.Refusals.{or_none}
use Rattle.lists.proofs.Answers.{same, accepted, in_front}
use Rattle.lists.specs.Flags.{flag, is_on}
use Rattle.voicing.specs.Mask.{mask_of, weights_of}
use Rattle.voicing.specs.Promise.{too_short, frames_refusal, mask_refusal, distances_refusal, masked_distances_refusal, MaskSays, DistancesSays, MaskedDistancesSays}
use Rattle.voicing.specs.Inner.Fits.{room_refusal}
use Rattle.lists.specs.declared.Refusal.{Refusal}
use Rattle.lists.proofs.Ends.{counted-one}
use Rattle.std.proofs.Common.{Result, Ok}
use Rattle.model.specs.declared.voice.model.Weight.TheVariants.{Given}
use Rattle.lists.proofs.Flags.{flags-back}
use Rattle.voicing.proofs.Theory.{weights-alone, mask-length}

-- ---- 3, 4 and 5

module _ (weights : ℕ) (ds : List ℕ) where
  pub frames_3 : 4096 < length ds → frames_refusal weights ds ≡ 3
  unfolding frames_refusal
  frames_3 h = rw (lt-ltb 4096 (length ds) h)

  module _ (few : length ds ≤ 4096) where
    pub frames_4 : (weights ≡ length ds → ⊥) → frames_refusal weights ds ≡ 4
    unfolding frames_refusal
    frames_4 h = rw (le-ltb 4096 (length ds) few, ne_eqb weights (length ds) h)

    module _ (agree : weights ≡ length ds) where
      pub frames_5 : 65536 < total ds → frames_refusal weights ds ≡ 5
      unfolding frames_refusal
      frames_5 h = rw (le-ltb 4096 (length ds) few, eq-eqb weights (length ds) agree, lt-ltb 65536 (total ds) h)

      pub frames_0 : total ds ≤ 65536 → frames_refusal weights ds ≡ 0
      unfolding frames_refusal
      frames_0 h = rw (le-ltb 4096 (length ds) few, eq-eqb weights (length ds) agree, le-ltb 65536 (total ds) h)

  -- what none of them being given says
  pub record Framed : Type 0 where
    pub few : length ds ≤ 4096
    pub agree : weights ≡ length ds
    pub small : total ds ≤ 65536

  pub framed : frames_refusal weights ds ≡ 0 → Framed
  unfolding frames_refusal
  framed z = (elim (ltb 4096 (length ds)) as (λ a. ltb 4096 (length ds) ≡ a → Framed) [
    | true ↦ λ a. let q : ◌≡◌ {A = ℕ} 3 0 = rw a at z in absurd (omega arith)
    | false ↦ λ a. (elim (eqb weights (length ds)) as (λ b. eqb weights (length ds) ≡ b → Framed) [
      | true ↦ λ b. (elim (ltb 65536 (total ds)) as (λ s. ltb 65536 (total ds) ≡ s → Framed) [
        | true ↦ λ s. let q : ◌≡◌ {A = ℕ} 5 0 = rw (a, b, s) at z in absurd (omega arith)
        | false ↦ λ s. record { few = ltb-false 4096 (length ds) a; agree = eqb-true weights (length ds) b; small = ltb-false 65536 (total ds) s }
      ]) refl
      | false ↦ λ b. let q : ◌≡◌ {A = ℕ} 4 0 = rw (a, b) at z in absurd (omega arith)
    ]) refl
  ]) refl

-- ---- 6, for lists of which one is shorter than n

least-short : (a b n : ℕ) → cond (ltb (min a b) n) 6 0 ≡ or_else (cond (ltb a n) 6 0) (cond (ltb b n) 6 0)
least-short a b n = ⊎_elim
    (λ (h : n ≤ a). ⊎_elim
    (λ (g : n ≤ b). let m : n ≤ min a b = omega arith in rw (le-ltb a n h, le-ltb b n g, le-ltb (min a b) n m))
    (λ (g : b < n). let m : min a b < n = omega arith in rw (le-ltb a n h, lt-ltb b n g, lt-ltb (min a b) n m))
    (le_or_lt n b))
    (λ (h : a < n). let m : min a b < n = omega arith in rw (lt-ltb a n h, lt-ltb (min a b) n m))
    (le_or_lt n a)

not_short : (a n : ℕ) → ◌≡◌ {A = ℕ} (cond (ltb a n) 6 0) 0 → n ≤ a
not_short a n e = ⊎_elim (λ (h : n ≤ a). h) (λ (h : a < n). let z : ◌≡◌ {A = ℕ} 6 0 = rw (lt-ltb a n h) at e in absurd (omega arith)) (le_or_lt n a)

-- ---- `mask`

module _ (ws : List Float) (threshold : Float) (ds v : List ℕ) where
  -- nothing is refused
  module _ (z : mask_refusal ws ds v ≡ 0) where
    pub mask-framed : Framed (length ws) ds
    mask-framed = framed (length ws) ds (or_none (frames_refusal (length ws) ds) _ z).0

    pub mask-room : total ds ≤ length v
    mask-room = not_short (length v) (total ds) (or_none (frames_refusal (length ws) ds) _ z).1

    flags-length : length (map flag (mask_of threshold (map Given ws) ds)) ≡ total ds
    flags-length = simp length-map (mask-length threshold (map Given ws) ds (simp length-map mask-framed.agree))

    pub mask_done : (m n : ℕ) (w : List ℕ) → total ds ≡ m → n ≡ m → w ≡ map flag (mask_of threshold (weights_of 1 ws (length ds)) ds) → MaskSays ws threshold ds v (Ok m) (w ++ drop n v)
    mask_done m n w e t o =
        let given : w ≡ map flag (mask_of threshold (map Given ws) ds) = o ∙ rw (weights-alone ws (length ds) mask-framed.agree) in
        record { answer = accepted _ _ _ z (ap (λ (x : ℕ). x ∷ []) (sym e)); flags = in_front _ n _ w v z given (flags-length ∙ e ∙ sym t) }

pub mask_one : (ws : List Float) (threshold : Float) (ds v : List ℕ) (x y : Result ℕ Refusal) (v₁ v₂ : List ℕ) → MaskSays ws threshold ds v x v₁ → MaskSays ws threshold ds v y v₂ → (x ≡ y) × (v₁ ≡ v₂)
mask_one ws threshold ds v x y v₁ v₂ a b = (counted-one x y (same (a.answer ∙ sym b.answer)), a.flags ∙ sym b.flags)

-- ---- `boundary_distances`

pub distances_one : (v l r : List ℕ) (x y : Result ℕ Refusal) (l₁ r₁ l₂ r₂ : List ℕ) → DistancesSays v l r x l₁ r₁ → DistancesSays v l r y l₂ r₂ → (x ≡ y) × (l₁ ≡ l₂) × (r₁ ≡ r₂)
distances_one v l r x y l₁ r₁ l₂ r₂ a b =
    (counted-one x y (same (a.answer ∙ sym b.answer)), a.before ∙ sym b.before, a.after ∙ sym b.after)

-- ---- `mask_with_distances`

module _ (ws : List Float) (threshold : Float) (ds v l r : List ℕ) where
  -- room for the shortest list
  pub masked_room : (m n : ℕ) → m ≡ min (length l) (length r) → n ≡ min (length v) m → room_refusal (length ws) ds n ≡ masked_distances_refusal ws ds v l r
  masked_room m n p q = rw (q, least-short (length v) m (total ds), p, least-short (length l) (length r) (total ds))

  -- nothing is refused
  module _ (z : masked_distances_refusal ws ds v l r ≡ 0) (n : ℕ) (e : n ≡ total ds) where
    mask_0 : mask_refusal ws ds v ≡ 0
    mask_0 = let a = or_none (frames_refusal (length ws) ds) _ z in rw a.0 (or_none (too_short (total ds) v) _ a.1).0

    pub masked_long : (n ≤ length v) × (n ≤ length l) × (n ≤ length r)
    masked_long =
        let b = (or_none (too_short (total ds) v) _ (or_none (frames_refusal (length ws) ds) _ z).1).1 in
        let c = or_none (too_short (total ds) l) _ b in
        rw e (mask-room ws threshold ds v mask_0, not_short _ _ c.0, not_short _ _ c.1)

    -- the flags of `mask`, and then the distances of those
    pub masked_done : (x y : Result ℕ Refusal) (v' l' r' : List ℕ) → MaskSays ws threshold ds v x v' → DistancesSays (take n v') l r y l' r' → MaskedDistancesSays ws threshold ds v l r y v' l' r'
    masked_done x y v' l' r' a b =
        let bs = mask_of threshold (map Given ws) ds in
        let k = masked_long in
        let m : length (map flag bs) ≡ n = flags-length ws threshold ds v mask_0 ∙ sym e in
        let w : v' ≡ map flag bs ++ drop (length (map flag bs)) v = a.flags ∙ rw mask_0 in
        let t : take n v' ≡ map flag bs = rw w (take_at (map flag bs) _ n m) in
        let c : length (take n v') ≡ n = ap length t ∙ m in
        let o : distances_refusal (length (take n v')) l r ≡ 0 = rw (c, le-ltb 65536 n (omega (arith, (mask-framed ws threshold ds v mask_0).small)), le-ltb (length l) n k.1, le-ltb (length r) n k.2) in
        let on : map is_on (take n v') ≡ bs = ap (map is_on) t ∙ flags-back bs in
        record {
          answer = b.answer ∙ rw (o, z, c, e);
          flags = w ∙ rw z;
          before = b.before ∙ rw (o, z, on);
          after = b.after ∙ rw (o, z, on);
        }

pub masked_one : (ws : List Float) (threshold : Float) (ds v l r : List ℕ) (x y : Result ℕ Refusal) (v₁ l₁ r₁ v₂ l₂ r₂ : List ℕ)
    → MaskedDistancesSays ws threshold ds v l r x v₁ l₁ r₁ → MaskedDistancesSays ws threshold ds v l r y v₂ l₂ r₂ → (x ≡ y) × (v₁ ≡ v₂) × (l₁ ≡ l₂) × (r₁ ≡ r₂)
masked_one ws threshold ds v l r x y v₁ l₁ r₁ v₂ l₂ r₂ a b =
    (counted-one x y (same (a.answer ∙ sym b.answer)), a.flags ∙ sym b.flags, a.before ∙ sym b.before, a.after ∙ sym b.after)
