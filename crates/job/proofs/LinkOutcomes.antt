-- Two outcomes that a call over the serial link allows are equal.
use mathlib.Core.Path.{◌≡◌, sym, ◌∙◌}
use mathlib.Core.List.{List}
use Prim.Native.Nat.{ℕ}
use Rattle.std.specs.Prelude.{Result}
use Rattle.lists.specs.declared.Refusal.{Refusal}
use Rattle.lists.proofs.Ends.{refused-one}
use Rattle.job.specs.declared.Done.{Done}
use Rattle.job.specs.declared.Failure.{Failure}
use Rattle.job.specs.Link.{came_in, link_refusal}
use Rattle.job.specs.LinkPromise.{LinkBeginSays, LinkPartSays, LinkEndSays}
use Rattle.job.proofs.Outcomes.{job-after-one}

pub link_begin_one : (link : List ℕ) (r s : Result (Unit {0}) Refusal) (l₁ l₂ : List ℕ) → LinkBeginSays link r l₁ → LinkBeginSays link s l₂ → (r ≡ s) × (l₁ ≡ l₂)
link_begin_one link r s l₁ l₂ f g = (refused-one r s (f.answer ∙ sym g.answer), f.memory ∙ sym g.memory)

pub link_part_one : (link bytes : List ℕ) (r s : Result (Unit {0}) Refusal) (l₁ l₂ : List ℕ) → LinkPartSays link bytes r l₁ → LinkPartSays link bytes s l₂ → (r ≡ s) × (l₁ ≡ l₂)
link_part_one link bytes r s l₁ l₂ f g = (refused-one r s (f.answer ∙ sym g.answer), f.memory ∙ sym g.memory)

pub link_end_one : (link out work : List ℕ) (r s : Result Done Failure) (l₁ o₁ w₁ l₂ o₂ w₂ : List ℕ) → LinkEndSays link out work r l₁ o₁ w₁ → LinkEndSays link out work s l₂ o₂ w₂ → (r ≡ s) × (l₁ ≡ l₂) × (o₁ ≡ o₂) × (w₁ ≡ w₂)
link_end_one link out work r s l₁ o₁ w₁ l₂ o₂ w₂ f g =
    let t = job-after-one (link_refusal link) (came_in link) out work o₁ o₂ w₁ w₂ r s f.job g.job in
    (t.0, f.memory ∙ sym g.memory, t.1, t.2)
