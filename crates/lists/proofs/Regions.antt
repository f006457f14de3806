-- Laws of parts of a list into which numbers are stored, as of a region of a work space.
use mathlib.Core.Path.{◌≡◌, refl, sym, ap, ◌∙◌}
use mathlib.Core.List.{List, [], ◌∷◌, ◌++◌, append_assoc, append-nil}
use mathlib.Core.Logic.{⊎_elim, ◌≢◌}
use Prim.Native.Nat.{ℕ, suc, ◌+◌, ◌-◌, ◌*◌, ◌<◌, ◌≤◌}
use native.Mathlib.Numerals.{add-one}
use native.Mathlib.Omega.{arith}
use borrow.Rule.Slice.PartMut.{mid_of, post_of, put_mid, Post-is, mid_len}
use lib.ListN.{length, set, take, drop, get_or, replicate, length-drop, length-set, length-replicate, take-append-drop}
use lib.Seq.{sets, sets-eq, drop-append-le, drop-drop, drop-set-add, drop-set-lt, take-set-le, take-set-lt, take-suc-set, get_or-take, get_or-drop, length-take-le, append_snoc}
use Rattle.lists.specs.Build.{build}
use Rattle.lists.proofs.Numbers.{less_or_more}
use Rattle.lists.proofs.Rows.{row_fits}
use Rattle.lists.proofs.Fills.{build-length}
use Rattle.lists.proofs.Stores.{sets-append}

module _ {A : Type 0} where
  abbrev cut : ℕ → ℕ → List A → List A
  cut o k l = take k (drop o l)

  pub cut-length : (o k : ℕ) (l : List A) → o + k ≤ length l → length (cut o k l) ≡ k
  cut-length o k l h = length-take-le k (drop o l) (simp length-drop (omega arith))

  -- a store within a part
  pub stored-within : (l : List A) (o k i : ℕ) (v : A) → i < k → cut o k (set l (o + i) v) ≡ set (cut o k l) i v
  stored-within l o k i v h = rw (drop-set-add o l i v, take-set-lt k (drop o l) i v h)

  -- and several
  pub sets-within : (vs l : List A) (o k i j : ℕ) → j ≡ o + i → i + length vs ≤ k → cut o k (sets l j vs) ≡ sets (cut o k l) i vs
  sets-within [] l o k i j e h = refl
  sets-within (v ∷ vs) l o k i j e h = sets-within vs (set l j v) o k (suc i) (suc j) (omega arith) (omega arith) ∙ ap (λ (p : List A). sets p (suc i) vs) (rw e (stored-within l o k i v (omega arith)))

  -- a store behind a part, and one before it
  under : (o k i : ℕ) (l : List A) (v : A) → o + k ≤ i → cut o k (set l i v) ≡ cut o k l
  under o k i l v h =
      let e : i ≡ o + (i - o) = omega arith in
      ap (λ (j : ℕ). cut o k (set l j v)) e ∙ rw (drop-set-add o l (i - o) v) (take-set-le k (drop o l) (i - o) v (omega arith))

  beyond : (o k i : ℕ) (l : List A) (v : A) → i < o → cut o k (set l i v) ≡ cut o k l
  beyond o k i l v h = rw (drop-set-lt o l i v h)

  -- stores behind a part leave it as it was, and so do stores before it
  pub stored-behind : (vs l : List A) (o k i : ℕ) → o + k ≤ i → cut o k (sets l i vs) ≡ cut o k l
  stored-behind [] l o k i h = refl
  stored-behind (v ∷ vs) l o k i h = stored-behind vs (set l i v) o k (suc i) (omega arith) ∙ under o k i l v h

  pub stored-before : (vs l : List A) (o k i : ℕ) → i + length vs ≤ o → cut o k (sets l i vs) ≡ cut o k l
  stored-before [] l o k i h = refl
  stored-before (v ∷ vs) l o k i h = stored-before vs (set l i v) o k (suc i) (omega arith) ∙ beyond o k i l v (omega arith)

  -- so stores into one of the parts of w items leave the others
  pub sets_aside : (vs l : List A) (w q s : ℕ) → q ≢ s → length vs ≤ w → cut (q * w) w (sets l (s * w) vs) ≡ cut (q * w) w l
  sets_aside vs l w q s d h = ⊎_elim
      (λ (g : q < s). stored-behind vs l (q * w) w (s * w) (row_fits w q s g))
      (λ (g : s < q). stored-before vs l (q * w) w (s * w) (omega (arith, row_fits w s q g)))
      (less_or_more q s d)

  -- and stores before a place leave what lies behind it
  pub dropped_before : (vs l : List A) (o i : ℕ) → i + length vs ≤ o → drop o (sets l i vs) ≡ drop o l
  dropped_before [] l o i h = refl
  dropped_before (v ∷ vs) l o i h = dropped_before vs (set l i v) o (suc i) (omega arith) ∙ drop-set-lt o l i v (omega arith)

  -- stores at a part's end make it longer
  pub stored_at : (vs l : List A) (o k i j : ℕ) → o + k ≡ i → k + length vs ≡ j → i + length vs ≤ length l → cut o j (sets l i vs) ≡ cut o k l ++ vs
  stored_at [] l o k i j e f h = let z : j ≡ k = omega arith in rw z (sym (append-nil (cut o k l)))
  stored_at (v ∷ vs) l o k i j e f h =
      let b : k < length (drop o l) = simp length-drop (omega arith) in
      stored_at vs (set l i v) o (suc k) (suc i) j (omega arith) (omega arith) (rw length-set (omega arith))
      ∙ rw (← e, drop-set-add o l k v, take-suc-set (drop o l) k v b) (append_snoc (cut o k l) v vs)

  -- a whole part is stored
  pub stored-whole : (vs l : List A) (o k : ℕ) → length vs ≡ k → o + k ≤ length l → cut o k (sets l o vs) ≡ vs
  stored-whole vs l o k e h = stored_at vs l o 0 o k (omega arith) (omega arith) (omega arith)

  -- number t of those that were stored
  pub read-within : (vs l : List A) (i t : ℕ) (z : A) → t < length vs → i + length vs ≤ length l → get_or (sets l i vs) (i + t) z ≡ get_or vs t z
  read-within vs l i t z h k = sym (get_or-take (length vs) _ t z h ∙ get_or-drop i (sets l i vs) t z) ∙ ap (λ (x : List A). get_or x t z) (stored-whole vs l i (length vs) refl k)

  -- one more number by a rule
  pub stored_rule : (f : ℕ → A) (d g : List A) (e t : ℕ) (v : A) → v ≡ f t → g ≡ sets d e (build f t) → set g (e + t) v ≡ sets d e (build f (t + 1))
  unfolding build
  stored_rule f d g e t v o h = rw (h, o, add-one, sets-append (build f t) (f t ∷ []) d e, build-length f t)

  -- a part that was lent comes back
  pub returned : (a e : ℕ) (l x : List A) → a ≤ e → e ≤ length l → length x ≡ e - a → put_mid a (e - a) l x ≡ sets l a x
  returned a e l x h g k =
      let z : a + length x ≡ e = omega arith in
      sym (sets-eq x l a (omega arith) ∙ rw (z, Post-is a e l h, append_assoc))

  -- and so does one over whose front something was stored
  pub lent_stored : (a e : ℕ) (l w vs : List A) → a ≤ e → e ≤ length l → length vs ≤ e - a → w ≡ sets (mid_of a (e - a) l) 0 vs → put_mid a (e - a) l w ≡ sets l a vs
  lent_stored a e l w vs h g k q =
      let n : ℕ = length vs in
      let m : List A = mid_of a (e - a) l in
      let z : 0 + n ≡ n = omega arith in
      let c : n ≤ length m = omega (arith, mid_len a e l g) in
      let f : w ≡ vs ++ drop n m = q ∙ sets-eq vs m 0 (omega arith) ∙ rw z in
      let d : drop n m ++ post_of a (e - a) l ≡ drop (a + n) l = sym (drop-append-le n m (post_of a (e - a) l) c) ∙ ap (drop n) (take-append-drop (e - a) (drop a l)) ∙ drop-drop n a l in
      ap (λ (x : List A). put_mid a (e - a) l x) f ∙ rw (append_assoc vs (drop n m) (post_of a (e - a) l), d) (sym (sets-eq vs l a (omega arith) ∙ append_assoc (take a l) vs (drop (a + n) l)))

  -- as one of which d places were filled with x
  pub lent_filled : (out w : List A) (f e d : ℕ) (x : A) → e ≡ f + d → e ≤ length out → w ≡ sets (mid_of f (e - f) out) 0 (replicate d x) → put_mid f (e - f) out w ≡ sets out f (replicate d x)
  lent_filled out w f e d x o h q = lent_stored f e out w (replicate d x) (omega arith) h (omega (arith, length-replicate d x)) q
