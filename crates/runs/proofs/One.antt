-- Two outcomes that a call's promise allows are equal.
use mathlib.Core.Path.{◌≡◌, sym, ◌∙◌}
use mathlib.Core.Bool.{Bool}
use mathlib.Core.List.{List}
use Prim.Native.Nat.{ℕ}
use lib.Ieee.{Float}
use Rattle.std.proofs.Common.{Result}
use Rattle.lists.specs.declared.Refusal.{Refusal}
use Rattle.lists.proofs.Answers.{same}
use Rattle.lists.proofs.Ends.{counted-one}
use Rattle.mlpg_adjust.specs.declared.Stream.{Stream}
use Rattle.runs.specs.Promise.{RunsSay, RunSays}

pub runs-one : (v : ℕ) (masked : Bool) (threshold : Float) (windows : ℕ) (records : List Float) (ds out : List ℕ) (x y : Result ℕ Refusal) (out₁ out₂ : List ℕ)
    → RunsSay v masked threshold windows records ds out x out₁ → RunsSay v masked threshold windows records ds out y out₂ → (x ≡ y) × (out₁ ≡ out₂)
runs-one v masked threshold windows records ds out x y out₁ out₂ a b = (counted-one x y (same (a.answer ∙ sym b.answer)), a.places ∙ sym b.places)

pub run-one : (s : Stream) (widths : List ℕ) (coefs records : List Float) (ds : List ℕ) (gv : List Float) (switches : List ℕ) (run : ℕ) (out work : List Float) (marks : List ℕ)
    (x y : Result ℕ Refusal) (out₁ work₁ : List Float) (marks₁ : List ℕ) (out₂ work₂ : List Float) (marks₂ : List ℕ)
    → RunSays s widths coefs records ds gv switches run out work marks x out₁ work₁ marks₁
    → RunSays s widths coefs records ds gv switches run out work marks y out₂ work₂ marks₂
    → (x ≡ y) × (out₁ ≡ out₂) × (work₁ ≡ work₂) × (marks₁ ≡ marks₂)
run-one s widths coefs records ds gv switches run out work marks x y out₁ work₁ marks₁ out₂ work₂ marks₂ a b =
    (counted-one x y (same (a.answer ∙ sym b.answer)), a.numbers ∙ sym b.numbers, a.space ∙ sym b.space, a.counts ∙ sym b.counts)
