-- Laws of passes over regions that lie one after the other: what is done to one is done to each.
use mathlib.Core.Path.{◌≡◌, refl, ◌∙◌}
use mathlib.Core.List.{List}
use Prim.Native.Nat.{ℕ, ◌+◌, ◌-◌, ◌*◌, ◌<◌, ◌≤◌}
use native.Mathlib.Nat.{suc-mul}
use native.Mathlib.Numerals.{add-one}
use native.Mathlib.Omega.{arith}
use borrow.Rule.Slice.PartMut.{put_mid}
use lib.ListN.{length, take, drop}
use lib.Ieee.{Float}
use Rattle.region.specs.Region.{region_of}
use Rattle.region.specs.Inner.Passes.{Across}
use Rattle.region.proofs.Lanes.{Stepped, stepped_lent, region-fits}

-- ---- no pass, one pass after another, and a pass in other words

module _ {size lanes : ℕ} where
  pub across-none : {P : ℕ → List Float → List Float → Type 0} {a : List Float} → ((l : ℕ) → l < lanes → P l (region_of size l a) (region_of size l a)) → Across P size lanes a a
  across-none same = record { long = refl; each = same; behind = refl }

  pub across-then : {P Q R : ℕ → List Float → List Float → Type 0} {a b c : List Float} → Across P size lanes a b → Across Q size lanes b c
      → ((l : ℕ) → l < lanes → P l (region_of size l a) (region_of size l b) → Q l (region_of size l b) (region_of size l c) → R l (region_of size l a) (region_of size l c)) → Across R size lanes a c
  across-then p q join = record { long = q.long ∙ p.long; each = λ l h. join l h (p.each l h) (q.each l h); behind = q.behind ∙ p.behind }

  -- the same pass, said otherwise
  pub across_as : {P R : ℕ → List Float → List Float → Type 0} {a b : List Float} → Across P size lanes a b
      → ((l : ℕ) → l < lanes → P l (region_of size l a) (region_of size l b) → R l (region_of size l a) (region_of size l b)) → Across R size lanes a b
  across_as p say = record { long = p.long; each = λ l h. say l h (p.each l h); behind = p.behind }

-- ---- a loop over the regions has passed the first l, and the next one begins at o

pub record Passing (Pass : ℕ → List Float → List Float → Type 0) (size lanes : ℕ) (d m : List Float) (l o : ℕ) : Type 0 where
  pub within : l ≤ lanes
  pub place : o ≡ l * size
  pub room : lanes * size ≤ length m
  pub stepped : Stepped Pass size lanes l d m

module _ {Pass : ℕ → List Float → List Float → Type 0} {size lanes : ℕ} {d m : List Float} {l o : ℕ} (k : Passing Pass size lanes d m l o) where
  pub passing-done : lanes ≤ l → Across Pass size lanes d m
  passing-done h = record { long = k.stepped.long; each = λ j b. k.stepped.done j (omega arith); behind = k.stepped.behind }

  module _ (h : l < lanes) where
    -- the region lies within the list, and is lent whole
    pub passing-fits : o + size ≤ length m
    passing-fits = rw k.place (region-fits size lanes l m h k.room)

    -- it is back as x
    pub passing-next : (x : List Float) → length x ≡ length (take (o + size - o) (drop o m)) → Pass l (take (o + size - o) (drop o m)) x → Passing Pass size lanes d (put_mid o (o + size - o) m x) (l + 1) (o + size)
    passing-next x e s =
        let q : Stepped Pass size lanes (l + 1) d (put_mid o (o + size - o) m x) = stepped_lent Pass size lanes d l o m x h k.room k.stepped k.place e s in
        record { within = omega arith; place = rw (add-one, suc-mul, k.place); room = omega (arith, q.long, k.stepped.long); stepped = q }
