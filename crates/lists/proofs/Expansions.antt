-- Laws of states' items at their frames, which are written part by part.
use mathlib.Core.Path.{◌≡◌, refl, sym, ap, ◌∙◌}
use mathlib.Core.List.{List, [], ◌∷◌, ◌++◌, append_assoc, append-nil, map}
use Prim.Native.Nat.{ℕ, zero, suc, ◌+◌, ◌-◌, ◌<◌, ◌≤◌}
use native.Mathlib.Nat.{add-sub_cancel_left, le_of_eq}
use native.Mathlib.Numerals.{add-one}
use native.Mathlib.Omega.{arith}
use borrow.Rule.Slice.PartMut.{mid_of, put_mid, mid_len, same_len_mid}
use lib.ListN.{length, take, drop, get_or, replicate, length-append, length-drop, length-replicate, get_or-replicate, drop_of_length-le}
use lib.Seq.{sets, length-take-le, take_at, take-append-add, drop-cons, drop-append-add}
use Rattle.lists.specs.Totals.{total}
use Rattle.lists.specs.Frames.{expand}
use Rattle.lists.specs.Parts.{part}
use Rattle.lists.proofs.Chosen.{of_both}
use Rattle.lists.proofs.Fills.{finished}
use Rattle.lists.proofs.Stores.{filled}
use Rattle.lists.proofs.Sums.{total-next, total-none}

module _ {A : Type 0} where
  pub expand-next : (ds : List ℕ) (xs : List A) (s : ℕ) (z : A) → s < length ds → s < length xs
      → expand (drop s ds) (drop s xs) ≡ replicate (get_or ds s 0) (get_or xs s z) ++ expand (drop (s + 1) ds) (drop (s + 1) xs)
  unfolding expand
  expand-next ds xs s z h l = rw (drop-cons ds s 0 h, drop-cons xs s z l, add-one)

  expand-none : (ds : List ℕ) (xs : List A) (s : ℕ) → length ds ≤ s → expand (drop s ds) (drop s xs) ≡ []
  unfolding expand
  expand-none ds xs s h = rw (drop_of_length-le ds h)

  -- a lent part of d places is back with w in it
  pub part-put : (out w : List A) (f d : ℕ) (rest whole : List A) → f + d ≤ length out → length w ≡ d → take f out ++ (w ++ rest) ≡ whole → take (f + d) (put_mid f (f + d - f) out w) ++ rest ≡ whole
  part-put out w f d rest whole l n e =
      let a : length (take f out ++ w) ≡ f + d = simp (length-append, n, length-take-le f out (omega arith)) in
      rw (← append_assoc (take f out) w, take_at (take f out ++ w) _ (f + d) a, append_assoc) e

  pub part_length : (out : List A) (f d : ℕ) → f + d ≤ length out → length (mid_of f (f + d - f) out) ≡ d
  part_length out f d l = mid_len f (f + d) out l ∙ add-sub_cancel_left f d

  -- d places of a lent part are all x
  pub part_filled : (out w : List A) (f d : ℕ) (x : A) → f + d ≤ length out → w ≡ sets (mid_of f (f + d - f) out) 0 (replicate d x) → w ≡ replicate d x
  part_filled out w f d x l o =
      let n = part_length out f d l in
      o ∙ filled d x (mid_of f (f + d - f) out) (omega arith) ∙ rw (drop_of_length-le (mid_of f (f + d - f) out) (le_of_eq n), append-nil)

  -- the first s states' items stand at their frames, f of them
  pub record Expanding (ds : List ℕ) (xs old out : List A) (s f : ℕ) : Type 0 where
    pub within : s ≤ length ds
    pub long : length out ≡ length old
    pub room : f + total (drop s ds) ≡ length old
    pub done : take f out ++ expand (drop s ds) (drop s xs) ≡ expand ds xs

  pub expanding : (ds : List ℕ) (xs old : List A) → total ds ≡ length old → Expanding ds xs old old 0 0
  expanding ds xs old e = record { within = omega arith; long = refl; room = omega arith; done = refl }

  module _ (ds : List ℕ) (xs old out : List A) (s f : ℕ) (k : Expanding ds xs old out s f) where
    pub expanding-room : s < length ds → f + get_or ds s 0 ≤ length out
    expanding-room h = omega (arith, k.room, k.long, total-next ds s h)

    pub expanding-next : (d : ℕ) (x z : A) (w : List A) → s < length ds → length xs ≡ length ds → d ≡ get_or ds s 0 → x ≡ get_or xs s z
        → w ≡ sets (mid_of f (f + d - f) out) 0 (replicate d x) → Expanding ds xs old (put_mid f (f + d - f) out w) (s + 1) (f + d)
    expanding-next d x z w h l e o q =
        let r = expanding-room h in
        let p = part_filled out w f d x (omega arith) q in
        let a : length w ≡ d = rw p (length-replicate d x) in
        record {
          within = omega arith;
          long = same_len_mid f (f + d - f) out w (a ∙ sym (part_length out f d (omega arith))) ∙ k.long;
          room = omega (arith, k.room, total-next ds s h);
          done = part-put out w f d _ _ (omega arith) a (rw (p, o, e) (rw (expand-next ds xs s z h (omega arith)) at k.done));
        }

    pub expanded : length ds ≤ s → out ≡ expand ds xs
    expanded h = finished out f _ _ (omega (arith, k.room, k.long, total-none ds s h)) (expand-none ds xs s h) k.done

pub map-replicate : {A B : Type 0} (g : A → B) (d : ℕ) (x : A) (rest : List A) → map g (replicate d x ++ rest) ≡ replicate d (g x) ++ map g rest
map-replicate g zero x rest = refl
map-replicate {B = B} g (suc d) x rest = ap (λ (l : List B). g x ∷ l) (map-replicate g d x rest)

pub map-expand : {A B : Type 0} (g : A → B) (ds : List ℕ) (xs : List A) → map g (expand ds xs) ≡ expand ds (map g xs)
unfolding expand
map-expand g [] xs = refl
map-expand g (d ∷ ds) [] = refl
map-expand g (d ∷ ds) (x ∷ xs) = map-replicate g d x (expand ds xs) ∙ rw (map-expand g ds xs)

pub expand-length : {A : Type 0} (ds : List ℕ) (xs : List A) → length xs ≡ length ds → length (expand ds xs) ≡ total ds
unfolding expand total
expand-length [] xs e = refl
expand-length (d ∷ ds) [] e = absurd (omega arith)
expand-length (d ∷ ds) (x ∷ xs) e = simp (length-append, length-replicate) (omega (arith, expand-length ds xs (omega arith)))

module _ {A : Type 0} where
  -- items behind d that are alike
  pub drop-run : (d k : ℕ) (x : A) (rest : List A) → drop (d + k) (replicate d x ++ rest) ≡ drop k rest
  drop-run d k x rest = ap (λ (n : ℕ). drop (n + k) (replicate d x ++ rest)) (sym (length-replicate d x)) ∙ drop-append-add (replicate d x) rest k

  -- the frames of the states from one on, of the first, and of some
  pub expand-drop : (ds : List ℕ) (xs : List A) (s : ℕ) → length xs ≡ length ds → drop (total (take s ds)) (expand ds xs) ≡ expand (drop s ds) (drop s xs)
  unfolding expand total
  expand-drop ds xs zero e = refl
  expand-drop [] [] (suc s) e = refl
  expand-drop [] (x ∷ xs) (suc s) e = absurd (omega arith)
  expand-drop (d ∷ ds) [] (suc s) e = absurd (omega arith)
  expand-drop (d ∷ ds) (x ∷ xs) (suc s) e = drop-run d (total (take s ds)) x (expand ds xs) ∙ expand-drop ds xs s (omega arith)

  expand-front : (m : ℕ) (ds : List ℕ) (xs : List A) → length xs ≡ length ds → expand (take m ds) (take m xs) ≡ take (total (take m ds)) (expand ds xs)
  unfolding expand total
  expand-front zero ds xs e = refl
  expand-front (suc m) [] xs e = refl
  expand-front (suc m) (d ∷ ds) [] e = absurd (omega arith)
  expand-front (suc m) (d ∷ ds) (x ∷ xs) e =
      ap (λ (l : List A). replicate d x ++ l) (expand-front m ds xs (omega arith)) ∙ sym (rw length-replicate at (take-append-add (replicate d x) (expand ds xs) (total (take m ds))))

  pub expand-part : (a m : ℕ) (ds : List ℕ) (xs : List A) → length xs ≡ length ds → expand (part a m ds) (part a m xs) ≡ part (total (take a ds)) (total (part a m ds)) (expand ds xs)
  expand-part a m ds xs e = expand-front m (drop a ds) (drop a xs) (simp length-drop (omega arith)) ∙ ap (take (total (part a m ds))) (sym (expand-drop ds xs a e))

  -- what holds of each state's item holds of each frame's
  pub expand-each : (P : A → Type 0) (ds : List ℕ) (xs : List A) (z : A) → length xs ≡ length ds → ((i : ℕ) → i < length ds → P (get_or xs i z)) → (j : ℕ) → j < total ds → P (get_or (expand ds xs) j z)
  unfolding expand total
  expand-each P [] xs z e h j l = absurd (omega arith)
  expand-each P (d ∷ ds) [] z e h j l = absurd (omega arith)
  expand-each P (d ∷ ds) (x ∷ xs) z e h j l =
      of_both (λ u y. P y) (replicate d x) (expand ds xs) d (total ds) z (length-replicate d x) (λ u b. rw (get_or-replicate d u x z b) (h 0 (omega arith))) (expand-each P ds xs z (omega arith) (λ i b. h (suc i) (omega arith))) j l
