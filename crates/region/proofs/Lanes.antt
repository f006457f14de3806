-- Laws of regions that lie one after the other, and are changed one at a time.
use mathlib.Core.Path.{◌≡◌, refl, sym, subst, ap, ◌∙◌}
use mathlib.Core.List.{List}
use mathlib.Core.Logic.{⊎_elim}
use Prim.Native.Nat.{ℕ, ◌+◌, ◌-◌, ◌*◌, ◌<◌, ◌≤◌}
use native.Mathlib.Nat.{add-sub_cancel_left}
use native.Mathlib.Omega.{arith}
use borrow.Rule.Slice.PartMut.{put_mid}
use lib.ListN.{length, take, drop}
use lib.Seq.{sets, length-sets}
use lib.Ieee.{Float}
use Rattle.lists.proofs.Numbers.{le_or_lt}
use Rattle.lists.proofs.Rows.{row_fits}
use Rattle.lists.proofs.Expansions.{part_length}
use Rattle.region.specs.Region.{region_of}
use Rattle.lists.proofs.Regions.{cut-length, returned, stored-whole, stored-behind, stored-before, dropped_before}

-- region l lies within the list
pub region-fits : (size lanes l : ℕ) (m : List Float) → l < lanes → lanes * size ≤ length m → l * size + size ≤ length m
region-fits size lanes l m h b = omega (arith, row_fits size l lanes h)

-- and has all its floats
pub region-long : (size lanes l : ℕ) (m : List Float) → l < lanes → lanes * size ≤ length m → length (region_of size l m) ≡ size
region-long size lanes l m h b = cut-length (l * size) size m (region-fits size lanes l m h b)

-- the first l of the regions of d have made the step, and the others are as they were
pub record Stepped (Step : ℕ → List Float → List Float → Type 0) (size lanes l : ℕ) (d m : List Float) : Type 0 where
  pub long : length m ≡ length d
  pub done : (j : ℕ) → j < l → Step j (region_of size j d) (region_of size j m)
  pub left : (j : ℕ) → l ≤ j → j < lanes → region_of size j m ≡ region_of size j d
  pub behind : drop (lanes * size) m ≡ drop (lanes * size) d

module _ (Step : ℕ → List Float → List Float → Type 0) (size lanes : ℕ) (d : List Float) where
  pub stepped-none : Stepped Step size lanes 0 d d
  stepped-none = record { long = refl; done = λ j h. absurd (omega arith); left = λ j h g. refl; behind = refl }

  pub stepped-next : (l : ℕ) (m x : List Float) → l < lanes → lanes * size ≤ length m → Stepped Step size lanes l d m → length x ≡ size
      → Step l (region_of size l m) x → Stepped Step size lanes (l + 1) d (sets m (l * size) x)
  stepped-next l m x h b k e s =
      let f : l * size + size ≤ length m = region-fits size lanes l m h b in
      record {
        long = length-sets m (l * size) x ∙ k.long;
        done = λ j i. ⊎_elim
            (λ (g : l ≤ j). let q : j ≡ l = omega arith in
            subst (λ (z : ℕ). Step z (region_of size z d) (region_of size z (sets m (l * size) x))) (sym q)
            (rw (stored-whole x m (l * size) size e f) (rw (k.left l (omega arith) h) at s)))
            (λ (g : j < l). rw (stored-behind x m (j * size) size (l * size) (row_fits size j l g)) (k.done j g))
            (le_or_lt l j);
        left = λ j i g. let o : l * size + size ≤ j * size = row_fits size l j (omega arith) in
            stored-before x m (j * size) size (l * size) (omega arith) ∙ k.left j (omega arith) g;
        behind = dropped_before x m (lanes * size) (l * size) (omega (arith, row_fits size l lanes h)) ∙ k.behind;
      }

  -- the region was lent as the part from o on, and is back as x
  pub stepped_lent : (l o : ℕ) (m x : List Float) → l < lanes → lanes * size ≤ length m → Stepped Step size lanes l d m → o ≡ l * size → length x ≡ length (take (o + size - o) (drop o m))
      → Step l (take (o + size - o) (drop o m)) x → Stepped Step size lanes (l + 1) d (put_mid o (o + size - o) m x)
  stepped_lent l o m x h b k z e s =
      let f : o + size ≤ length m = rw z (region-fits size lanes l m h b) in
      let c : o + size - o ≡ size = add-sub_cancel_left o size in
      let long : length x ≡ size = e ∙ part_length m o size f in
      let back : put_mid o (o + size - o) m x ≡ sets m (l * size) x = returned o (o + size) m x (omega arith) f (long ∙ sym c) ∙ ap (λ (i : ℕ). sets m i x) z in
      subst (λ (q : List Float). Stepped Step size lanes (l + 1) d q) (sym back) (stepped-next l m x h b k long (rw (c, z) at s))
