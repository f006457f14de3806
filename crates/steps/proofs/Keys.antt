-- The keys of the states, and that on the way down the least one's state is above its shortest.
use mathlib.Core.Path.{◌≡◌, refl, sym, ap, ◌∙◌, subst}
use mathlib.Core.Bool.{Bool, true, false, cond}
use mathlib.Core.List.{List, [], ◌∷◌}
use mathlib.Core.Logic.{⊎_elim}
use Prim.Native.Nat.{ℕ, zero, suc, ◌-◌, ◌≤◌, ◌<◌, suc-le-suc}
use native.Mathlib.Nat.{not-suc-le-zero}
use native.Mathlib.Omega.{arith}
use lib.Dec.{T, ltb}
use lib.ListN.{length, get_or, get_or-eq_default}
use lib.Ieee.{Float, binary64}
use lib.Ieee.Fits.{sub-fits}
use borrow.Author.Tests.{ltb-true, ltb-false, lt-ltb}
use Rattle.lists.specs.Sizes.{most_states}
use Rattle.lists.specs.Totals.{total}
use Rattle.lists.proofs.Builds.{build-at}
use Rattle.lists.proofs.Fills.{build-length}
use Rattle.lists.proofs.Numbers.{le_or_lt}
use Rattle.floats.proofs.Ordered.{abs_fits, abs_clear}
use Rattle.steps.specs.Steps.{State, States, size, least, state_at, Key, cost_of, key_of, keys, sooner, least_of}
use Rattle.steps.specs.Steps.Key.{Fixed, Cost}
use Rattle.steps.specs.Inner.Scores.{rank, key_at, scores}
use Rattle.steps.proofs.Order.{clash, Sound}
use Rattle.steps.proofs.Order.Sound.{fixed, cost}
use Rattle.steps.proofs.Least.{least_key, least_first, least-later, least_in, least-score}

key_sound : (up : Bool) (rho : Float) (x : State) (d : ℕ) → Sound (key_of up rho x d)
unfolding key_of
key_sound true rho x d = cost (abs_fits _ (sub-fits binary64 rho _)) (abs_clear _)
key_sound false rho x d =
    elim (ltb x.shortest d) as (λ s. Sound (cond s (Cost (cost_of rho x.mean x.vari (d - 1))) Fixed)) [
      | true ↦ cost (abs_fits _ (sub-fits binary64 rho _)) (abs_clear _)
      | false ↦ fixed
    ]

module _ (up : Bool) (rho : Float) (ss : States) (ds : List ℕ) where
  pub length-keys : length (keys up rho ss ds) ≡ size ss
  unfolding keys
  length-keys = build-length _ (size ss)

  pub get_or-keys : (i : ℕ) → i < size ss → key_of up rho (state_at ss i) (get_or ds i 0) ≡ get_or (keys up rho ss ds) i Fixed
  unfolding keys
  get_or-keys i h = sym (build-at _ (size ss) i Fixed h)

  pub keys-sound : (i : ℕ) → Sound (get_or (keys up rho ss ds) i Fixed)
  keys-sound i = ⊎_elim
      (λ (h : size ss ≤ i). subst Sound (sym (get_or-eq_default (keys up rho ss ds) Fixed (rw length-keys h))) fixed)
      (λ (h : i < size ss). subst Sound (get_or-keys i h) (key_sound up rho (state_at ss i) (get_or ds i 0)))
      (le_or_lt (size ss) i)

-- ---- on the way down

movable : Key → Bool
movable Fixed = false
movable (Cost x) = true

sooner_moves : (x k : Key) → sooner x k ≡ true → T (movable x)
unfolding movable
sooner_moves Fixed k e = clash (sym e)
sooner_moves (Cost x) k e = tt

unbeaten_moves : (y x : Key) → T (movable y) → sooner y x ≡ false → T (movable x)
unfolding movable
unbeaten_moves Fixed x t e = absurd t
unbeaten_moves (Cost y) Fixed t e = clash e
unbeaten_moves (Cost y) (Cost x) t e = tt

first_moves : (x : Key) (xs : List Key) → ((j : ℕ) → T (movable (get_or xs j Fixed)) → T (movable (least_key xs))) → (j : ℕ) → T (movable (get_or (x ∷ xs) j Fixed)) → sooner (least_key xs) x ≡ false → T (movable x)
first_moves x xs among zero t e = t
first_moves x xs among (suc j) t e = unbeaten_moves (least_key xs) x (among j t) e

-- where some key may move, the least does
least_moves : (ks : List Key) (j : ℕ) → T (movable (get_or ks j Fixed)) → T (movable (least_key ks))
unfolding movable
least_moves [] j t = t
least_moves (x ∷ xs) j t =
    (elim (sooner (least_key xs) x) as (λ s. sooner (least_key xs) x ≡ s → T (movable (least_key (x ∷ xs)))) [
      | true ↦ λ e. rw (least-later x xs e).1 (sooner_moves (least_key xs) x e)
      | false ↦ λ e. rw (least_first x xs e).1 (first_moves x xs (λ i. least_moves xs i) j t e)
    ])
    refl

-- a total above that of other numbers has one above its own
record Long (ls ds : List ℕ) : Type 0 where
  place : ℕ
  inside : place < length ds
  long : get_or ls place 0 < get_or ds place 0

some-long : (ls ds : List ℕ) → length ls ≡ length ds → total ls < total ds → Long ls ds
unfolding total
some-long [] [] q h = absurd (not-suc-le-zero h)
some-long [] (d ∷ ds) q h = absurd (omega arith)
some-long (l ∷ ls) [] q h = absurd (omega arith)
some-long (l ∷ ls) (d ∷ ds) q h =
    (elim (ltb l d) as (λ s. ltb l d ≡ s → Long (l ∷ ls) (d ∷ ds)) [
      | true ↦ λ g. record { place = 0; inside = omega arith; long = ltb-true l d g }
      | false ↦ λ g. let o = some-long ls ds (omega arith) (omega (arith, ltb-false l d g)) in record { place = suc o.place; inside = suc-le-suc o.inside; long = o.long }
    ])
    refl

key_moves : (rho : Float) (x : State) (d : ℕ) → x.shortest < d → T (movable (key_of false rho x d))
unfolding key_of movable
key_moves rho x d h = rw (lt-ltb x.shortest d h) tt

moves_long : (rho : Float) (x : State) (d : ℕ) → T (movable (key_of false rho x d)) → x.shortest < d
unfolding key_of movable
moves_long rho x d =
    (elim (ltb x.shortest d) as (λ s. ltb x.shortest d ≡ s → T (movable (cond s (Cost (cost_of rho x.mean x.vari (d - 1))) Fixed)) → x.shortest < d) [
      | true ↦ λ g t. ltb-true x.shortest d g
      | false ↦ λ g t. absurd t
    ])
    refl

module _ (rho : Float) (ss : States) (ds : List ℕ) where
  pub place_in : (up : Bool) → 0 < size ss → least_of (keys up rho ss ds) < size ss
  place_in up z = let n : length (keys up rho ss ds) ≡ size ss = length-keys up rho ss ds in subst (λ (n : ℕ). least_of (keys up rho ss ds) < n) n (least_in (keys up rho ss ds) (omega arith))

  -- the state that gives a frame has one to give
  pub place-long : length ss.shortest ≡ size ss → length ds ≡ size ss → least ss < total ds → get_or ss.shortest (least_of (keys false rho ss ds)) 0 < get_or ds (least_of (keys false rho ss ds)) 0
  unfolding movable
  place-long e q h =
      let ks : List Key = keys false rho ss ds in
      let i : ℕ = least_of ks in
      let l = some-long ss.shortest ds (e ∙ sym q) h in
      let z : 0 < size ss = omega (arith, l.inside) in
      let t : T (movable (least_key ks)) = least_moves ks l.place (subst (λ (k : Key). T (movable k)) (get_or-keys false rho ss ds l.place (omega (arith, l.inside))) (key_moves rho _ _ l.long)) in
      moves_long rho (state_at ss i) (get_or ds i 0) (subst (λ (k : Key). T (movable k)) (sym (get_or-keys false rho ss ds i (place_in false z))) t)

-- the state of the least score is the one that a step changes
module _ (up : Bool) (rho : Float) (ss : States) (ds : List ℕ) where
  rank_is : (i : ℕ) → i < size ss → key_at up rho ss ds i ≡ rank (get_or (keys up rho ss ds) i Fixed)
  unfolding key_at
  rank_is i h = ap rank (get_or-keys up rho ss ds i h)

  pub least-place : size ss ≤ most_states → (p : ℕ) → p < size ss → ((j : ℕ) → j < size ss → scores (key_at up rho ss ds) p ≤ scores (key_at up rho ss ds) j) → p ≡ least_of (keys up rho ss ds)
  least-place few p h least =
      let n : length (keys up rho ss ds) ≡ size ss = length-keys up rho ss ds in
      least-score (keys up rho ss ds) (keys-sound up rho ss ds) (omega arith) p (omega arith)
      (λ j l. let m : j < size ss = omega arith in rw (rank_is p h, rank_is j m) at (least j m))
