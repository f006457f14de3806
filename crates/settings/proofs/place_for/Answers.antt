use mathlib.Core.Path.{◌∙◌, subst}
use Prim.Native.Nat.{ℕ}
use native.Mathlib.Omega.{arith}
use Rattle.settings.specs.Inner.Steps.{PlaceGiven}
use Rattle.settings.proofs.Places.{own-place, free-place}
use Rattle.settings.proofs.place_for.Goals as goal

pub returns-in-Some : goal.returns-in-Some
returns-in-Some c = let g = c.in-Some.ensures in (g.0 ∙ own-place _ _ (omega (arith, g.0, g.1)), g.1)

pub returns-in-None : goal.returns-in-None
returns-in-None c =
    let e = free-place c.args.voice c.args.voices.now (omega (arith, c.in-None.ensures)) in
    subst (λ (f : ℕ). PlaceGiven c.free_place.result f c.args.voices.now) e c.free_place.ensures
