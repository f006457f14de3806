-- The voiced frames' switches are stored behind the flags, state after state.
use mathlib.Core.Path.{◌≡◌, refl, sym, ap, ◌∙◌}
use mathlib.Core.Bool.{Bool}
use mathlib.Core.List.{List, ◌++◌}
use Prim.Native.Nat.{ℕ, zero, suc, ◌+◌, ◌-◌, ◌<◌, ◌≤◌}
use native.Mathlib.Nat.{add-zero}
use native.Mathlib.Omega.{arith}
use borrow.Rule.Slice.PartMut.{mid_of, put_mid}
use lib.ListN.{length, take, drop, get_or, replicate, length-replicate}
use lib.Seq.{sets, length-sets, get_or-take}
use Rattle.lists.specs.Totals.{total}
use Rattle.lists.specs.Frames.{expand, select, count}
use Rattle.lists.proofs.Expansions.{expand-length}
use Rattle.lists.proofs.Regions.{stored-behind, lent_filled}
use Rattle.lists.proofs.Stores.{sets-append}
use Rattle.voicing.specs.Mask.{mask_in}
use Rattle.voicing.specs.Inner.Fits.{goes_on, Switched}
use Rattle.voicing.proofs.Masks.{mask_end}
use Rattle.voicing.proofs.Passes.{Passed, passed_none, passed-fits, passed-run, passed-room, passed-next}
use Rattle.voicing.proofs.Selections.{expand-run, select-next, run_items}

-- the switches from state s on are still to be stored behind the k that are
pub record Switching (ds on old flags : List ℕ) (s f k : ℕ) : Type 0 where
  pub passed : Passed ds old s f k
  pub long : length flags ≡ length old
  pub front : take (total ds) flags ≡ take (total ds) old
  pub left : sets flags (total ds + k) (select (drop f (mask_in ds old)) (drop f (expand ds on))) ≡ sets old (total ds) (select (mask_in ds old) (expand ds on))

pub switching : (ds on old : List ℕ) → Switching ds on old old 0 0 0
switching ds on old = record { passed = passed_none; long = refl; front = refl; left = rw add-zero }

module _ {ds on old flags : List ℕ} {s f k : ℕ} (i : Switching ds on old flags s f k) where
  pub switched : length ds ≤ s → flags ≡ sets old (total ds) (select (mask_in ds old) (expand ds on))
  unfolding select
  switched h = rw (mask_end ds old s f i.passed.frames h) at i.left

  module _ (t : s < length ds) {d : ℕ} (o : d ≡ get_or ds s 0) where
    -- the flags are read as they were
    same : (n : ℕ) → f + n ≤ total ds → goes_on flags f n ≡ goes_on old f n
    same zero h = refl
    same (suc n) h =
        let e : get_or flags f 0 ≡ get_or old f 0 = sym (get_or-take (total ds) flags f 0 (omega arith)) ∙ ap (λ (l : List ℕ). get_or l f 0) i.front ∙ get_or-take (total ds) old f 0 (omega arith) in
        rw e

    module _ (fits : Switched ds (length on) old) {b : Bool} (y : b ≡ goes_on flags f d) {c : ℕ} (z : c ≡ count (replicate d b)) {from : ℕ} (q : from ≡ total ds + k) where
      g : b ≡ goes_on old f d
      g = y ∙ same d (passed-fits i.passed t o)

      pub switching-room : from + c ≤ length flags
      switching-room = omega (arith, passed-room i.passed t o g z, fits.room, i.long)

      pub switching-next : (x : ℕ) (w : List ℕ) → x ≡ get_or on s 0 → w ≡ sets (mid_of from (from + c - from) flags) 0 (replicate c x)
          → Switching ds on old (put_mid from (from + c - from) flags w) (s + 1) (f + d) (k + c)
      switching-next x w v p =
          let xs = expand ds on in
          let rest = select (drop (f + d) (mask_in ds old)) (drop (f + d) xs) in
          let back : put_mid from (from + c - from) flags w ≡ sets flags (total ds + k) (replicate c x) = lent_filled flags w from (from + c) c x refl switching-room p ∙ ap (λ (j : ℕ). sets flags j (replicate c x)) q in
          let next : total ds + (k + c) ≡ total ds + k + length (replicate c x) = omega (arith, length-replicate c x) in
          let items : replicate c x ++ rest ≡ select (drop f (mask_in ds old)) (drop f xs) = rw (run_items xs f d c x b (expand-run ds on s f d x 0 fits.each t i.passed.frames o v) z)
          (sym (select-next (mask_in ds old) xs f d c b (passed-run i.passed t o g) (omega (arith, passed-fits i.passed t o, expand-length ds on fits.each)) z)) in
          record {
            passed = passed-next i.passed t o g z;
            long = ap length back ∙ length-sets flags (total ds + k) (replicate c x) ∙ i.long;
            front = ap (take (total ds)) back ∙ stored-behind (replicate c x) flags 0 (total ds) (total ds + k) (omega arith) ∙ i.front;
            left = ap (λ (m : List ℕ). sets m (total ds + (k + c)) rest) back ∙ ap (λ (j : ℕ). sets (sets flags (total ds + k) (replicate c x)) j rest) next
                ∙ sym (sets-append (replicate c x) rest flags (total ds + k)) ∙ ap (sets flags (total ds + k)) items ∙ i.left;
          }
