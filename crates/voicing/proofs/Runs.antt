-- The frames of a voiced state are part of one run: their distances go by ones, and so only the state's ends are set to 0.
use mathlib.Core.Path.{◌≡◌, refl, sym, ap, ◌∙◌}
use mathlib.Core.Bool.{Bool, true, false}
use mathlib.Core.List.{List, [], ◌∷◌, ◌++◌, append-nil}
use mathlib.Core.Logic.{⊎_elim}
use Prim.Native.Nat.{ℕ, zero, suc, ◌+◌, ◌-◌, ◌<◌, ◌≤◌, min}
use native.Mathlib.Nat.{add-sub_cancel_left}
use native.Mathlib.Omega.{arith}
use borrow.Author.Tests.{le-ltb, lt-ltb}
use borrow.Rule.Slice.PartMut.{mid_of, put_mid}
use lib.ListN.{length, take, drop, get_or, replicate, length-drop, length-replicate, get_or-replicate, get_or-append}
use lib.Seq.{sets, length-take-le, length-sets, drop-length, drop-drop, take-nil, get_or-take, get_or-drop}
use lib.Dec.{ltb}
use lib.Ieee.{Float, nan}
use Rattle.lists.specs.Totals.{total}
use Rattle.lists.specs.Parts.{part}
use Rattle.lists.proofs.Builds.{build_is}
use Rattle.lists.proofs.Fills.{build-length}
use Rattle.lists.proofs.Numbers.{le_or_lt}
use Rattle.lists.proofs.Regions.{returned, lent_filled, read-within}
use Rattle.lists.proofs.Stores.{filled}
use Rattle.floats.specs.Numbers.{nought}
use Rattle.region.specs.Rows.{elem}
use Rattle.region.proofs.Readings.{read_under, read-beyond}
use Rattle.voicing.specs.Boundaries.{ahead, lefts, rights, shut, shut_all}
use Rattle.voicing.specs.Mask.{mask_in}
use Rattle.voicing.specs.Inner.Fits.{frame, goes_on}
use Rattle.voicing.specs.Inner.States.{shut_ends, put_pair}
use Rattle.voicing.specs.declared.closing.Ends.{Ends}
use Rattle.voicing.proofs.Theory.{lefts-length, rights-length}
use Rattle.voicing.proofs.Masks.{frame-next, frame-fits, Run, goes_some, mask-run, mask_end}

-- ---- the ends of a state's frames

module _ (before after j r : ℕ) (v : Float) where
  pub shut-first : j < before → shut before after j r v ≡ nought
  shut-first h = rw (lt-ltb j before h)

  pub shut-last : r < after → shut before after j r v ≡ nought
  shut-last h = ⊎_elim (λ (g : before ≤ j). rw (le-ltb j before g, lt-ltb r after h)) shut-first (le_or_lt before j)

  shut_none : before ≤ j → after ≤ r → shut before after j r v ≡ v
  shut_none h g = rw (le-ltb j before h, le-ltb r after g)

module _ (e : Ends) (v : Float) where
  pub ends-length : length (shut_ends e v) ≡ e.d
  unfolding shut_ends
  ends-length = build-length (λ j. shut e.before e.after j (e.d - 1 - j) v) e.d

  -- no end is set to 0
  ends-none : min e.before e.d + min e.after e.d ≡ 0 → replicate e.d v ≡ shut_ends e v
  unfolding shut_ends
  ends-none z =
      build_is (λ j. shut e.before e.after j (e.d - 1 - j) v) e.d (replicate e.d v) nan (length-replicate e.d v)
      (λ j h. get_or-replicate e.d j v nan h ∙ sym (shut_none e.before e.after j (e.d - 1 - j) v (omega arith) (omega arith)))

  -- the first are set to 0, and then the last
  ends-zeroed : sets (sets (replicate e.d v) 0 (replicate (min e.before e.d) nought)) (e.d - min e.after e.d) (replicate (min e.after e.d) nought) ≡ shut_ends e v
  unfolding shut_ends
  ends-zeroed =
      let d = e.d in
      let p = min e.before d in
      let q = min e.after d in
      let x : length (replicate p nought) ≡ p = length-replicate p nought in
      let y : length (replicate q nought) ≡ q = length-replicate q nought in
      let b = sets (replicate d v) 0 (replicate p nought) in
      let n : length b ≡ d = length-sets (replicate d v) 0 (replicate p nought) ∙ length-replicate d v in
      build_is (λ j. shut e.before e.after j (d - 1 - j) v) d (sets b (d - q) (replicate q nought)) nan (length-sets b (d - q) (replicate q nought) ∙ n)
      (λ j h. ⊎_elim
      (λ (g : d - q ≤ j).
      let o : d - q + (j - (d - q)) ≡ j = omega arith in
      let k : j - (d - q) < q = omega arith in
      rw o at (read-within (replicate q nought) b (d - q) (j - (d - q)) nan (rw y k) (rw (n, y) (omega arith)) ∙ get_or-replicate q (j - (d - q)) nought nan k)
      ∙ sym (shut-last e.before e.after j (d - 1 - j) v (omega arith)))
      (λ (g : j < d - q). read_under (replicate q nought) b (d - q) j g
      ∙ ⊎_elim
      (λ (i : p ≤ j). read-beyond (replicate p nought) (replicate d v) 0 j (rw x (omega arith)) ∙ get_or-replicate d j v nan h ∙ sym (shut_none e.before e.after j (d - 1 - j) v (omega arith) (omega arith)))
      (λ (i : j < p).
      let o : 0 + j ≡ j = omega arith in
      rw o at (read-within (replicate p nought) (replicate d v) 0 j nan (rw x i) (rw (x, length-replicate d v) (omega arith)) ∙ get_or-replicate p j nought nan i)
      ∙ sym (shut-first e.before e.after j (d - 1 - j) v (omega arith)))
      (le_or_lt p j))
      (le_or_lt (d - q) j))

  -- a list of which all is filled, and then its ends, the last part lent
  module _ (l a : List Float) (n : length l ≡ e.d) (o : a ≡ sets l 0 (replicate e.d v)) (p q : ℕ) (x : p ≡ min e.before e.d) (y : q ≡ min e.after e.d) where
    whole : a ≡ replicate e.d v
    whole = o ∙ filled e.d v l (omega arith) ∙ rw (← n, drop-length l, append-nil)

    pub filled-same : p + q ≡ 0 → a ≡ shut_ends e v
    filled-same z = whole ∙ ends-none (omega arith)

    pub filled-ends : (b w : List Float) → b ≡ sets a 0 (replicate p nought) → w ≡ sets (mid_of (e.d - q) (e.d - (e.d - q)) b) 0 (replicate q nought)
        → put_mid (e.d - q) (e.d - (e.d - q)) b w ≡ shut_ends e v
    filled-ends b w r z =
        let m : length b ≡ e.d = ap length r ∙ length-sets a 0 (replicate p nought) ∙ ap length whole ∙ length-replicate e.d v in
        lent_filled b w (e.d - q) e.d q nought (omega arith) (omega arith) z ∙ rw (r, whole, x, y) ends-zeroed

-- a mean and an inverse variance at a state's places, lent one after the other
pub pair_put : (l a w : List Float) (place ivars : ℕ) (e : Ends) (x y : Float) → place + e.d ≤ length l → ivars + e.d ≤ length l
    → a ≡ sets (mid_of place (place + e.d - place) l) 0 (replicate e.d x) → w ≡ shut_ends e y
    → put_mid ivars (ivars + e.d - ivars) (put_mid place (place + e.d - place) l a) w ≡ put_pair e place ivars x y l
pair_put l a w place ivars e x y h g o q =
    let m : put_mid place (place + e.d - place) l a ≡ sets l place (replicate e.d x) = lent_filled l a place (place + e.d) e.d x refl h o in
    let k : ivars + e.d ≤ length (sets l place (replicate e.d x)) = rw length-sets g in
    rw (m, q) (returned ivars (ivars + e.d) _ (shut_ends e y) (omega arith) k (ends-length e y ∙ sym (add-sub_cancel_left ivars e.d)))

-- ---- the distances in a run

-- those of the frames that are voiced from here on without a gap go by ones
pub lefts-ahead : (l : ℕ) (bs : List Bool) (u : ℕ) → u < ahead bs → get_or (lefts l bs) u 0 ≡ l + u
unfolding ahead lefts
lefts-ahead l [] u h = absurd (omega arith)
lefts-ahead l (false ∷ bs) u h = absurd (omega arith)
lefts-ahead l (true ∷ bs) zero h = omega arith
lefts-ahead l (true ∷ bs) (suc u) h = lefts-ahead (suc l) bs u (omega arith) ∙ omega arith

pub rights-ahead : (bs : List Bool) (u : ℕ) → u < ahead bs → get_or (rights bs) u 0 + (u + 1) ≡ ahead bs
unfolding ahead rights
rights-ahead [] u h = absurd (omega arith)
rights-ahead (false ∷ bs) u h = absurd (omega arith)
rights-ahead (true ∷ bs) zero h = omega arith
rights-ahead (true ∷ bs) (suc u) h = omega (arith, rights-ahead bs u (omega arith))

lefts-on : (l d : ℕ) (rest : List Bool) → drop d (lefts l (replicate d true ++ rest)) ≡ lefts (l + d) rest
unfolding lefts
lefts-on l zero rest = let z : l + 0 ≡ l = omega arith in rw z
lefts-on l (suc d) rest = let z : suc l + d ≡ l + suc d = omega arith in rw z at (lefts-on (suc l) d rest)

lefts-off : (l d : ℕ) (rest : List Bool) → 0 < d → drop d (lefts l (replicate d false ++ rest)) ≡ lefts 0 rest
unfolding lefts
lefts-off l zero rest h = absurd (omega arith)
lefts-off l (suc zero) rest h = refl
lefts-off l (suc (suc d)) rest h = lefts-off 0 (suc d) rest (omega arith)

pub ahead-on : (d : ℕ) (rest : List Bool) → ahead (replicate d true ++ rest) ≡ ahead rest + d
unfolding ahead
ahead-on zero rest = omega arith
ahead-on (suc d) rest = omega (arith, ahead-on d rest)

pub ahead-off : (d : ℕ) (rest : List Bool) → 0 < d → ahead (replicate d false ++ rest) ≡ 0
unfolding ahead
ahead-off zero rest h = absurd (omega arith)
ahead-off (suc d) rest h = refl

-- so do those of d voiced frames
module _ (d j : ℕ) (rest : List Bool) (h : j < d) where
  in_ahead : j < ahead (replicate d true ++ rest)
  in_ahead = omega (arith, ahead-on d rest)

  pub lefts-at : (l : ℕ) → get_or (lefts l (replicate d true ++ rest)) j 0 ≡ l + j
  lefts-at l = lefts-ahead l (replicate d true ++ rest) j in_ahead

  pub rights-at : get_or (rights (replicate d true ++ rest)) j 0 ≡ ahead rest + (d - 1 - j)
  rights-at = omega (arith, rights-ahead (replicate d true ++ rest) j in_ahead, ahead-on d rest)

rights-drop : (f : ℕ) (bs : List Bool) → drop f (rights bs) ≡ rights (drop f bs)
unfolding rights
rights-drop zero bs = refl
rights-drop (suc f) [] = refl
rights-drop (suc f) (true ∷ bs) = rights-drop f bs
rights-drop (suc f) (false ∷ bs) = rights-drop f bs

-- ---- the run that a loop over states is in: it began at frame `begin`, and ends at frame `end` where that is not passed

pub record InRun (bs : List Bool) (f begin end : ℕ) : Type 0 where
  pub begun : begin ≤ f
  pub before : drop f (lefts 0 bs) ≡ lefts (f - begin) (drop f bs)
  pub after : f < end → ahead (drop f bs) + f ≡ end

pub in_none : {bs : List Bool} → InRun bs 0 0 0
in_none = record { begun = omega arith; before = refl; after = λ h. absurd (omega arith) }

module _ {bs : List Bool} {f begin end : ℕ} (i : InRun bs f begin end) (d : ℕ) where
  -- a voiced state's frames
  pub in_voiced : Run bs f d true → {e : ℕ} → e ≡ ahead (drop f bs) + f → InRun bs (f + d) begin e
  in_voiced r o =
      let z : f - begin + d ≡ f + d - begin = omega (arith, i.begun) in
      let a : ahead (drop f bs) ≡ ahead (drop (f + d) bs) + d = ap ahead r ∙ ahead-on d (drop (f + d) bs) in
      record {
        begun = omega (arith, i.begun);
        before = sym (drop-drop d f (lefts 0 bs)) ∙ rw (i.before, r, lefts-on, z);
        after = λ h. omega arith;
      }

  -- an unvoiced state's frames
  pub in_unvoiced : Run bs f d false → 0 < d → InRun bs (f + d) (f + d) end
  in_unvoiced r p =
      let z : f + d - (f + d) ≡ 0 = omega arith in
      let a : ahead (drop f bs) ≡ 0 = ap ahead r ∙ ahead-off d (drop (f + d) bs) p in
      record {
        begun = omega arith;
        before = sym (drop-drop d f (lefts 0 bs)) ∙ rw (i.before, r, lefts-off (f - begin) d (drop (f + d) bs) p, z);
        after = λ h. absurd (omega (arith, i.after (omega arith)));
      }

-- ---- a walk along the states ahead, as far as the run goes: the frames from f on to e are of one run

pub record Walking (ds flags : List ℕ) (f i e : ℕ) : Type 0 where
  pub within : i ≤ length ds
  pub frames : e ≡ frame ds i
  pub same : ahead (drop e (mask_in ds flags)) + e ≡ ahead (drop f (mask_in ds flags)) + f

module _ {ds flags : List ℕ} {f i e : ℕ} (w : Walking ds flags f i e) where
  -- there are no states behind
  pub walked : length ds ≤ i → e ≡ ahead (drop f (mask_in ds flags)) + f
  unfolding ahead
  walked h = let a : ahead (drop e (mask_in ds flags)) ≡ 0 = rw (mask_end ds flags i e w.frames h) in omega (arith, w.same)

  module _ (t : i < length ds) {d : ℕ} (o : d ≡ get_or ds i 0) where
    pub walking-fits : e + d ≤ total ds
    walking-fits = frame-fits ds i e w.frames d t o

    pub walking_on : true ≡ goes_on flags e d → Walking ds flags f (i + 1) (e + d)
    walking_on g =
        let a : ahead (drop e (mask_in ds flags)) ≡ ahead (drop (e + d) (mask_in ds flags)) + d = ap ahead (mask-run ds flags i e w.frames d true t o g) ∙ ahead-on d (drop (e + d) (mask_in ds flags)) in
        record { within = omega arith; frames = omega (arith, w.frames, frame-next ds i t); same = omega (arith, w.same) }

    pub walking-off : false ≡ goes_on flags e d → e ≡ ahead (drop f (mask_in ds flags)) + f
    walking-off g =
        let a : ahead (drop e (mask_in ds flags)) ≡ 0 = ap ahead (mask-run ds flags i e w.frames d false t o g) ∙ ahead-off d (drop (e + d) (mask_in ds flags)) (goes_some flags e d g) in
        omega (arith, w.same)

-- ---- a state's inverse variances are set to 0 at its ends

pub shut-length : (before after : ℕ) (ls rs : List ℕ) (vs : List Float) → length rs ≡ length ls → length vs ≡ length ls → length (shut_all before after ls rs vs) ≡ length ls
unfolding shut_all
shut-length before after [] rs vs a b = refl
shut-length before after (l ∷ ls) [] vs a b = absurd (omega arith)
shut-length before after (l ∷ ls) (r ∷ rs) [] a b = absurd (omega arith)
shut-length before after (l ∷ ls) (r ∷ rs) (v ∷ vs) a b = ap suc (shut-length before after ls rs vs (omega arith) (omega arith))

pub shut_at : (before after : ℕ) (ls rs : List ℕ) (vs : List Float) (j : ℕ) → j < length ls → length rs ≡ length ls → length vs ≡ length ls
    → elem (shut_all before after ls rs vs) j ≡ shut before after (get_or ls j 0) (get_or rs j 0) (elem vs j)
unfolding shut_all
shut_at before after [] rs vs j h a b = absurd (omega arith)
shut_at before after (l ∷ ls) [] vs j h a b = absurd (omega arith)
shut_at before after (l ∷ ls) (r ∷ rs) [] j h a b = absurd (omega arith)
shut_at before after (l ∷ ls) (r ∷ rs) (v ∷ vs) zero h a b = refl
shut_at before after (l ∷ ls) (r ∷ rs) (v ∷ vs) (suc j) h a b = shut_at before after ls rs vs j (omega arith) (omega arith) (omega arith)

-- those of some frames
module _ (before after : ℕ) where
  shut-front : (n : ℕ) (ls rs : List ℕ) (vs : List Float) → shut_all before after (take n ls) (take n rs) (take n vs) ≡ take n (shut_all before after ls rs vs)
  unfolding shut_all
  shut-front zero ls rs vs = refl
  shut-front (suc n) [] rs vs = refl
  shut-front (suc n) (l ∷ ls) [] vs = refl
  shut-front (suc n) (l ∷ ls) (r ∷ rs) [] = refl
  shut-front (suc n) (l ∷ ls) (r ∷ rs) (v ∷ vs) = ap (λ (x : List Float). shut before after l r v ∷ x) (shut-front n ls rs vs)

  pub shut-part : (o n : ℕ) (ls rs : List ℕ) (vs : List Float) → length rs ≡ length ls → length vs ≡ length ls
      → shut_all before after (part o n ls) (part o n rs) (part o n vs) ≡ part o n (shut_all before after ls rs vs)
  unfolding shut_all
  shut-part zero n ls rs vs a b = shut-front n ls rs vs
  shut-part (suc o) n [] rs vs a b = rw (take-nil {A = ℕ} n, take-nil {A = Float} n)
  shut-part (suc o) n (l ∷ ls) [] vs a b = absurd (omega arith)
  shut-part (suc o) n (l ∷ ls) (r ∷ rs) [] a b = absurd (omega arith)
  shut-part (suc o) n (l ∷ ls) (r ∷ rs) (v ∷ vs) a b = shut-part o n ls rs vs (omega arith) (omega arith)

-- a distance of l more against a reach
nearer : (l j reach : ℕ) → ltb (l + j) reach ≡ ltb j (reach - l)
nearer l j reach = ⊎_elim
    (λ (g : reach ≤ l + j). le-ltb (l + j) reach g ∙ sym (le-ltb j (reach - l) (omega arith)))
    (λ (g : l + j < reach). lt-ltb (l + j) reach g ∙ sym (lt-ltb j (reach - l) (omega arith)))
    (le_or_lt reach (l + j))

-- of d voiced frames from frame f on, all with the item x: the first stands l frames behind the begin of the run, and the last r before its end
pub ends-state : (before after l r f d : ℕ) (x : Float) (bs : List Bool) (xs : List Float) → length xs ≡ length bs → f + d ≤ length bs → Run bs f d true → Run xs f d x
    → drop f (lefts 0 bs) ≡ lefts l (drop f bs) → r ≡ ahead (drop (f + d) bs)
    → shut_ends (record { d = d; before = before - l; after = after - r }) x ≡ take d (drop f (shut_all before after (lefts 0 bs) (rights bs) xs))
unfolding shut_ends
ends-state before after l r f d x bs xs m fits k items begun ended =
    let ls = lefts 0 bs in
    let rs = rights bs in
    let shut_by = shut_all before after ls rs xs in
    let a : length rs ≡ length ls = rights-length bs ∙ sym (lefts-length 0 bs) in
    let b : length xs ≡ length ls = m ∙ sym (lefts-length 0 bs) in
    let n : length shut_by ≡ length bs = shut-length before after ls rs xs a b ∙ lefts-length 0 bs in
    let left : (j : ℕ) → j < d → get_or ls (f + j) 0 ≡ l + j = λ j h. sym (get_or-drop f ls j 0) ∙ rw (begun, k) (lefts-at d j (drop (f + d) bs) h l) in
    let right : (j : ℕ) → j < d → get_or rs (f + j) 0 ≡ r + (d - 1 - j) = λ j h. sym (get_or-drop f rs j 0) ∙ rw (rights-drop, k, ended) (rights-at d j (drop (f + d) bs) h) in
    let item : (j : ℕ) → j < d → elem xs (f + j) ≡ x = λ j h. sym (get_or-drop f xs j nan) ∙ rw items (get_or-append (replicate d x) (drop (f + d) xs) nan j (rw length-replicate h) ∙ get_or-replicate d j x nan h) in
    sym (build_is (λ j. shut (before - l) (after - r) j (d - 1 - j) x) d (take d (drop f shut_by)) nan (length-take-le d (drop f shut_by) (rw length-drop (omega (arith, n))))
    (λ j h. get_or-take d (drop f shut_by) j nan h ∙ get_or-drop f shut_by j nan ∙ shut_at before after ls rs xs (f + j) (omega (arith, lefts-length 0 bs)) a b
    ∙ rw (left j h, right j h, item j h, nearer l j before, nearer r (d - 1 - j) after)))
