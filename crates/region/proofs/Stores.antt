-- Laws of numbers that are stored among a region's factors or its values: its other lists are as they were.
use mathlib.Core.Path.{◌≡◌, refl, ◌∙◌}
use mathlib.Core.List.{List, []}
use Prim.Native.Nat.{ℕ, ◌+◌, ◌*◌, ◌≤◌}
use native.Mathlib.Omega.{arith}
use lib.ListN.{length}
use lib.Seq.{sets}
use lib.Ieee.{Float}
use Rattle.lists.specs.Parts.{part}
use Rattle.lists.proofs.Fills.{fill_done}
use Rattle.lists.proofs.Stores.{sets-next}
use Rattle.lists.proofs.Regions.{cut-length, sets-within, stored-behind, stored-before}
use Rattle.region.specs.Region.{Region, region_at}
use Rattle.region.specs.Inner.Passes.{Spaced, replaced}
use Rattle.region.specs.declared.Places.{Places}

module _ (p : Places) (n w : ℕ) (m : List Float) {size : ℕ} (s : Spaced p n w size) where
  abbrev r : Region
  r = region_at p n w m

  -- vs are stored from place o on
  module _ (o : ℕ) (vs : List Float) where
    front_kept : p.factors ≤ o → region_at p n w (sets m o vs) ≡ replaced r (part p.factors (n * w) (sets m o vs)) (part p.values n (sets m o vs))
    front_kept h =
        let kept : (a k : ℕ) → a + k ≤ p.factors → part a k (sets m o vs) ≡ part a k m = λ a k b. stored-behind vs m a k o (omega arith) in
        rw (kept 0 p.ivars (omega arith), kept p.ivars p.ivars (omega arith), kept p.rows (n * w) (omega arith), kept p.right n (omega arith))

    pub factors-stored : (i : ℕ) → o ≡ p.factors + i → i + length vs ≤ n * w → region_at p n w (sets m o vs) ≡ replaced r (sets r.factors i vs) r.values
    factors-stored i e h = front_kept (omega arith) ∙ rw (sets-within vs m p.factors (n * w) i o e h, stored-before vs m p.values n o (omega arith))

    pub values-stored : (i : ℕ) → o ≡ p.values + i → i + length vs ≤ n → region_at p n w (sets m o vs) ≡ replaced r r.factors (sets r.values i vs)
    values-stored i e h = front_kept (omega arith) ∙ rw (stored-behind vs m p.factors (n * w) o (omega arith), sets-within vs m p.values n i o e h)

module _ (p : Places) (n w : ℕ) (m : List Float) (s : Spaced p n w (length m)) where
  -- all values are new
  pub values-whole : (vs : List Float) → length vs ≡ n → region_at p n w (sets m p.values vs) ≡ replaced (region_at p n w m) (region_at p n w m).factors vs
  values-whole vs e =
      let long : length (part p.values n m) ≡ n = cut-length p.values n m s.room in
      values-stored p n w m s p.values vs 0 (omega arith) (omega arith)
      ∙ rw (sets-next [] vs (part p.values n m) 0 n refl (omega arith) (omega arith), fill_done vs (part p.values n m) n (omega arith))
