-- Estimates: how many they are, what each is, that none is below its shortest, and a loop that stores them.
use mathlib.Core.Path.{◌≡◌, refl, sym, ap, ◌∙◌}
use mathlib.Core.List.{List, ◌++◌}
use Prim.Native.Nat.{ℕ, ◌+◌, ◌*◌, ◌≤◌, ◌<◌, zero-le}
use native.Mathlib.Nat.{le-max_left}
use native.Mathlib.Omega.{arith}
use lib.ListN.{length, get_or, set, drop, length-set}
use lib.Ieee.{Float}
use Rattle.lists.specs.Build.{build}
use Rattle.lists.specs.Totals.{total}
use Rattle.lists.proofs.Builds.{build-at, total_built}
use Rattle.lists.proofs.Fills.{build-length, build-next, build-done}
use Rattle.steps.specs.Steps.{States, size, state_at}
use Rattle.steps.proofs.Settling.{Pointwise, pointwise_of}
use Rattle.duration.specs.Estimate.{estimate_of, estimates}
use Rattle.duration.specs.Inner.Asked.{Estimated}

module _ (rho : Float) (ss : States) where
  pub length-estimates : length (estimates rho ss) ≡ size ss
  unfolding estimates
  length-estimates = build-length _ (size ss)

  pub get_or-estimates : (i : ℕ) → i < size ss → get_or (estimates rho ss) i 0 ≡ estimate_of rho (state_at ss i)
  unfolding estimates
  get_or-estimates i h = build-at _ (size ss) i 0 h

  -- none is below its shortest
  pub estimates-above : length ss.shortest ≡ size ss → Pointwise ss.shortest (estimates rho ss)
  estimates-above e = pointwise_of ss.shortest (estimates rho ss) (e ∙ sym length-estimates) (λ i h. rw (get_or-estimates i (rw (← e) h)) (le-max_left (get_or ss.shortest i 0) _))

  -- ---- a loop over the states has stored and summed i of them

  abbrev each : ℕ → ℕ
  each i = estimate_of rho (state_at ss i)

  pub record Estimating (start work : List ℕ) (sum i : ℕ) : Type 0 where
    pub within : i ≤ size ss
    pub so_far : work ≡ build each i ++ drop i start
    pub long : length work ≡ length start
    pub known : sum ≡ total (build each i)
    pub small : sum ≤ i * 4294967295

  pub estimating : (start : List ℕ) → Estimating start start 0 0
  unfolding build total
  estimating start = record { within = zero-le; so_far = refl; long = refl; known = refl; small = zero-le }

  module _ (start work : List ℕ) (sum i : ℕ) (room : length start ≡ size ss) (g : Estimating start work sum i) where
    pub estimating-next : (x : ℕ) → i < size ss → x ≤ 4294967295 → x ≡ estimate_of rho (state_at ss i) → Estimating start (set work i x) (sum + x) (i + 1)
    estimating-next x h b e =
        record {
          within = omega arith;
          so_far = build-next each start work i x 0 (omega arith) e g.so_far;
          long = length-set work i x ∙ g.long;
          known = ap (λ (n : ℕ). n + x) g.known ∙ ap (λ (n : ℕ). total (build each i) + n) e ∙ sym (total_built each i);
          small = omega (arith, g.small);
        }

    pub estimated : size ss ≤ i → Estimated rho ss sum work
    unfolding estimates
    estimated h =
        let end : i ≡ size ss = omega (arith, g.within) in
        record { total = g.known ∙ ap (λ (n : ℕ). total (build each n)) end; output = build-done each start work i (size ss) end (omega arith) g.so_far }
