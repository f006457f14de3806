-- Items of states at their frames, and those of the voiced frames, state after state.
use mathlib.Core.Path.{◌≡◌, refl, sym, ap, ◌∙◌}
use mathlib.Core.Bool.{Bool, true, false}
use mathlib.Core.List.{List, [], ◌∷◌, ◌++◌}
use Prim.Native.Nat.{ℕ, zero, suc, ◌+◌, ◌<◌, ◌≤◌}
use native.Mathlib.Omega.{arith}
use lib.ListN.{length, take, drop, get_or, replicate, length-drop, length-replicate}
use lib.Seq.{drop-drop, take_at}
use Rattle.lists.specs.Frames.{expand, select, count}
use Rattle.lists.proofs.Counts.{count-all, count_none}
use Rattle.lists.proofs.Expansions.{expand-next, expand-drop}
use Rattle.voicing.specs.Inner.Fits.{frame}
use Rattle.voicing.proofs.Masks.{frame-next, Run}

module _ {A : Type 0} where
  -- ---- a state's frames all have its item

  pub expand-run : (ds : List ℕ) (xs : List A) (s f d : ℕ) (x z : A) → length xs ≡ length ds → s < length ds → f ≡ frame ds s → d ≡ get_or ds s 0 → x ≡ get_or xs s z → Run (expand ds xs) f d x
  expand-run ds xs s f d x z e t o q r =
      let k : f + d ≡ frame ds (s + 1) = omega (arith, frame-next ds s t) in
      rw (k, expand-drop ds xs (s + 1) e, o, expand-drop ds xs s e, q, r) (expand-next ds xs s z t (omega arith))

  -- ---- frames that are voiced or unvoiced together are all taken, or none is

  select-off : (d : ℕ) (bs : List Bool) (xs : List A) → d ≤ length xs → select (replicate d false ++ bs) xs ≡ select bs (drop d xs)
  unfolding select
  select-off zero bs xs h = refl
  select-off (suc d) bs [] h = absurd (omega arith)
  select-off (suc d) bs (x ∷ xs) h = select-off d bs xs (omega arith)

  select-on : (d : ℕ) (bs : List Bool) (xs : List A) → d ≤ length xs → select (replicate d true ++ bs) xs ≡ take d xs ++ select bs (drop d xs)
  unfolding select
  select-on zero bs xs h = refl
  select-on (suc d) bs [] h = absurd (omega arith)
  select-on (suc d) bs (x ∷ xs) h = ap (λ (l : List A). x ∷ l) (select-on d bs xs (omega arith))

  select-run : (b : Bool) (d : ℕ) (bs : List Bool) (xs : List A) → d ≤ length xs → select (replicate d b ++ bs) xs ≡ take (count (replicate d b)) xs ++ select bs (drop d xs)
  select-run true d bs xs h = select-on d bs xs h ∙ rw (count-all d)
  select-run false d bs xs h = select-off d bs xs h ∙ rw (count_none d)

  -- bs is the mask, and ys are the frames' items: c of the d frames from f on are voiced
  pub select-next : (bs : List Bool) (ys : List A) (f d c : ℕ) (b : Bool) → Run bs f d b → f + d ≤ length ys → c ≡ count (replicate d b)
      → select (drop f bs) (drop f ys) ≡ take c (drop f ys) ++ select (drop (f + d) bs) (drop (f + d) ys)
  select-next bs ys f d c b r h z =
      let far : d ≤ length (drop f ys) = rw length-drop (omega arith) in
      ap (λ (l : List Bool). select l (drop f ys)) r ∙ select-run b d (drop (f + d) bs) (drop f ys) far ∙ rw (z, drop-drop)

  -- and those have their state's item
  pub run_items : (ys : List A) (f d c : ℕ) (x : A) (b : Bool) → Run ys f d x → c ≡ count (replicate d b) → replicate c x ≡ take c (drop f ys)
  run_items ys f d c x true r z = rw (r, z ∙ count-all d) (sym (take_at (replicate d x) _ d (length-replicate d x)))
  run_items ys f d c x false r z = let n : c ≡ 0 = z ∙ count_none d in rw n
