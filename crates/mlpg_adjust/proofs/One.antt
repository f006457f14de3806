-- Two outcomes that the promise of the trajectory allows are equal.
use mathlib.Core.Path.{◌≡◌, sym, ap, ◌∙◌}
use mathlib.Core.List.{List, [], ◌∷◌}
use Prim.Native.Nat.{ℕ}
use lib.Ieee.{Float}
use Rattle.std.proofs.Common.{Result}
use Rattle.lists.specs.Answers.{answer_of}
use Rattle.lists.specs.declared.Refusal.{Refusal}
use Rattle.lists.proofs.Answers.{Same, same}
use Rattle.lists.proofs.Ends.{answered-one}
use Rattle.mlpg_adjust.specs.Clamps.{clamped_high, clamped_low}
use Rattle.mlpg_adjust.specs.Promise.{created, created_number, CreateSays}
use Rattle.mlpg_adjust.specs.declared.Stream.{Stream}
use Rattle.mlpg_adjust.specs.declared.Clamped.{Clamped}

-- number and values say which answer it is
created-one : (x y : Result Clamped Refusal) → Same (created x) (created y) → x ≡ y
created-one = answered-one (λ c. c.high ∷ c.low ∷ []) (λ a b e. let f : a.high ≡ b.high = cc in let g : a.low ≡ b.low = cc in ap (λ (n : ℕ). record { high = n; low = a.low }) f ∙ ap (λ (n : ℕ). record { high = b.high; low = n }) g)

pub create_one : (s : Stream) (widths : List ℕ) (coefs records : List Float) (ds : List ℕ) (gv : List Float) (switches : List ℕ) (out work : List Float) (marks : List ℕ)
    (x y : Result Clamped Refusal) (out₁ work₁ : List Float) (marks₁ : List ℕ) (out₂ work₂ : List Float) (marks₂ : List ℕ)
    → CreateSays s widths coefs records ds gv switches out work marks x out₁ work₁ marks₁
    → CreateSays s widths coefs records ds gv switches out work marks y out₂ work₂ marks₂
    → (x ≡ y) × (out₁ ≡ out₂) × (work₁ ≡ work₂) × (marks₁ ≡ marks₂)
create_one s widths coefs records ds gv switches out work marks x y out₁ work₁ marks₁ out₂ work₂ marks₂ a b =
    let e : created_number x ≡ created_number y = a.number ∙ sym b.number in
    (created-one x y (same (a.answer ∙ ap (λ (k : ℕ). answer_of k (clamped_high s widths records ds ∷ clamped_low s widths records ds ∷ [])) e ∙ sym b.answer)), a.numbers ∙ rw e (sym b.numbers), a.space ∙ rw e (sym b.space), a.counts ∙ rw e (sym b.counts))
