-- Filling back: what the loops do at each turn.
use mathlib.Core.Path.{◌≡◌, refl, sym, ap, ◌∙◌}
use mathlib.Core.Bool.{Bool, true, false}
use mathlib.Core.Logic.{◌≢◌}
use mathlib.Core.List.{List, [], ◌∷◌, ◌++◌}
use Prim.Native.Nat.{ℕ, zero, suc, ◌+◌, ◌*◌, ◌%◌, ◌<◌, ◌≤◌}
use native.Mathlib.Nat.{add-zero, zero-mul, suc-mul, mul-le-mul_right, add-mul, mod-eq_of_lt, add-mul-mod_self_right}
use native.Mathlib.Numerals.{add-one}
use native.Mathlib.Omega.{arith}
use lib.ListN.{get_or-replicate, length, take, drop, get_or, set, replicate, length-set, length-drop, length-replicate, drop_of_length-le}
use lib.Seq.{length-take-le, get_or-take, get_or-drop, drop-cons, drop-drop, drop-nil, set_comm}
use Rattle.lists.specs.Build.{build}
use Rattle.lists.specs.Totals.{total}
use Rattle.lists.specs.Frames.{fill, count}
use Rattle.lists.proofs.Builds.{build_is}
use Rattle.lists.proofs.Chosen.{fill_on}
use Rattle.lists.proofs.Counts.{count-all, count_none}
use Rattle.lists.proofs.Rows.{row_fits}
use Rattle.voicing.specs.Mask.{mask_in}
use Rattle.voicing.specs.Inner.Fits.{goes_on}
use Rattle.voicing.specs.Inner.Lanes.{sets_by, sets_lanes}
use Rattle.voicing.proofs.Masks.{mask_end}
use Rattle.voicing.proofs.Passes.{Passed, passed_none, passed-fits, passed-run, passed-next}

-- ---- the places of a column: j of d are done, and q is the next

pub column-next : (p q j v : ℕ) → q ≡ p + j * v → q + v ≡ p + (j + 1) * v
column-next p q j v e = rw add-one (omega (arith, suc-mul j v))

pub column_in : (p q j d v n : ℕ) → q ≡ p + j * v → j < d → p + d * v < n + v → q < n
column_in p q j d v n e h l = omega (arith, row_fits v j d h)

-- a lane's places are no other lane's
lane_other : (v m n i j : ℕ) → m < n → n < v → n + i * v ≢ m + j * v
lane_other v m n i j h b e =
    let same : n ≡ m = sym (add-mul-mod_self_right n i v ∙ mod-eq_of_lt b) ∙ ap (λ (x : ℕ). x % v) e ∙ add-mul-mod_self_right m j v ∙ mod-eq_of_lt (omega arith) in
    omega arith

module _ {A : Type 0} where
  pub sets_by-length : (v p : ℕ) (xs out : List A) → length (sets_by v p xs out) ≡ length out
  unfolding sets_by
  sets_by-length v p [] out = refl
  sets_by-length v p (x ∷ xs) out = sets_by-length v (p + v) xs (set out p x) ∙ length-set out p x

  pub sets_by-append : (v p : ℕ) (xs ys out : List A) → sets_by v p (xs ++ ys) out ≡ sets_by v (p + length xs * v) ys (sets_by v p xs out)
  unfolding sets_by
  sets_by-append v p [] ys out = let z : p + 0 * v ≡ p = omega (arith, zero-mul v) in rw z
  sets_by-append v p (x ∷ xs) ys out =
      let z : p + v + length xs * v ≡ p + suc (length xs) * v = omega (arith, suc-mul (length xs) v) in
      sets_by-append v (p + v) xs ys (set out p x) ∙ rw z

  -- ---- a column that is put, and one that is spread

  pub put_next : (v q j : ℕ) (xs out whole : List A) (z : A) → j < length xs → sets_by v q (drop j xs) out ≡ whole → sets_by v (q + v) (drop (j + 1) xs) (set out q (get_or xs j z)) ≡ whole
  unfolding sets_by
  put_next v q j xs out whole z h e = rw (drop-cons xs j z h, ← add-one j) at e

  pub put-done : (v q j : ℕ) (xs out whole : List A) → length xs ≤ j → sets_by v q (drop j xs) out ≡ whole → out ≡ whole
  unfolding sets_by
  put-done v q j xs out whole h e = rw (drop_of_length-le xs h) at e

  -- ---- lane after lane

  -- a column and a number at none of its places may be stored in either order, and so may two columns
  column-set : (v p q : ℕ) (xs out : List A) (y : A) → ((i : ℕ) → p + i * v ≢ q) → sets_by v p xs (set out q y) ≡ set (sets_by v p xs out) q y
  unfolding sets_by
  column-set v p q [] out y h = refl
  column-set v p q (x ∷ xs) out y h =
      rw (set_comm out q p y x (λ e. h 0 (omega (arith, e, zero-mul v))))
      (column-set v (p + v) q xs (set out p x) y (λ i e. h (suc i) (omega (arith, e, suc-mul i v))))

  column_swap : (v p q : ℕ) (xs ys out : List A) → ((i j : ℕ) → p + i * v ≢ q + j * v) → sets_by v p xs (sets_by v q ys out) ≡ sets_by v q ys (sets_by v p xs out)
  unfolding sets_by
  column_swap v p q xs [] out h = refl
  column_swap v p q xs (y ∷ ys) out h =
      column_swap v p (q + v) xs ys (set out q y) (λ i j e. h i (suc j) (omega (arith, e, suc-mul j v)))
      ∙ rw (column-set v p q xs out y (λ i e. h i 0 (omega (arith, e, zero-mul v))))

  pub lanes_length : (v p : ℕ) (xs : ℕ → List A) (n : ℕ) (out : List A) → length (sets_lanes v p xs n out) ≡ length out
  unfolding sets_lanes
  lanes_length v p xs zero out = refl
  lanes_length v p xs (suc n) out = sets_by-length v (p + n) (xs n) (sets_lanes v p xs n out) ∙ lanes_length v p xs n out

  pub lanes_next : (v p : ℕ) (xs : ℕ → List A) (l : ℕ) (old out w : List A) → out ≡ sets_lanes v p xs l old → w ≡ sets_by v (p + l) (xs l) out → w ≡ sets_lanes v p xs (l + 1) old
  unfolding sets_lanes
  lanes_next v p xs l old out w i e = rw (add-one, ← i) e

  pub lanes_done : (v p : ℕ) (xs : ℕ → List A) (l lanes : ℕ) (old out : List A) → l ≤ lanes → lanes ≤ l → out ≡ sets_lanes v p xs l old → out ≡ sets_lanes v p xs lanes old
  lanes_done v p xs l lanes old out h g i = let e : lanes ≡ l = omega arith in rw e i

  lanes_same : (v p : ℕ) (xs ys : ℕ → List A) (n : ℕ) (out : List A) → ((l : ℕ) → l < n → xs l ≡ ys l) → sets_lanes v p xs n out ≡ sets_lanes v p ys n out
  unfolding sets_lanes
  lanes_same v p xs ys zero out h = refl
  lanes_same v p xs ys (suc n) out h = rw (h n (omega arith), lanes_same v p xs ys n out (λ l b. h l (omega arith)))

  lanes_empty : (v p n : ℕ) (out : List A) → sets_lanes v p (λ l. []) n out ≡ out
  unfolding sets_lanes sets_by
  lanes_empty v p zero out = refl
  lanes_empty v p (suc n) out = lanes_empty v p n out

  -- a lane's column and those of the lanes before it may be stored in either order
  lane_swap : (v p q : ℕ) (xs : List A) (ys : ℕ → List A) (m n : ℕ) (out : List A) → m ≤ n → n < v
      → sets_by v (p + n) xs (sets_lanes v (p + q * v) ys m out) ≡ sets_lanes v (p + q * v) ys m (sets_by v (p + n) xs out)
  unfolding sets_lanes
  lane_swap v p q xs ys zero n out h b = refl
  lane_swap v p q xs ys (suc m) n out h b =
      column_swap v (p + n) (p + q * v + m) xs (ys m) (sets_lanes v (p + q * v) ys m out) (λ i j e. lane_other v m n i (q + j) (omega arith) b (omega (arith, e, add-mul q j v)))
      ∙ rw (lane_swap v p q xs ys m n out (omega arith) b)

  -- the first d numbers of every lane, and then the others
  lanes_append : (v p d : ℕ) (xs ys : ℕ → List A) (n : ℕ) (out : List A) → n ≤ v → ((l : ℕ) → length (xs l) ≡ d)
      → sets_lanes v p (λ l. xs l ++ ys l) n out ≡ sets_lanes v (p + d * v) ys n (sets_lanes v p xs n out)
  unfolding sets_lanes
  lanes_append v p d xs ys zero out b h = refl
  lanes_append v p d xs ys (suc n) out b h =
      let z : p + n + d * v ≡ p + d * v + n = omega arith in
      rw (lanes_append v p d xs ys n out (omega arith) h, sets_by-append, h n, lane_swap v p d (xs n) ys n n (sets_lanes v p xs n out) (omega arith) (omega arith), z)

  -- ---- frames that are voiced or unvoiced together

  fill-off : (none : A) (d : ℕ) (xs : List A) → fill none (replicate d false) xs ≡ replicate d none
  unfolding fill
  fill-off none zero xs = refl
  fill-off none (suc d) xs = ap (λ (l : List A). none ∷ l) (fill-off none d xs)

  pub fill-length : (none : A) (bs : List Bool) (xs : List A) → length (fill none bs xs) ≡ length bs
  unfolding fill
  fill-length none [] xs = refl
  fill-length none (false ∷ bs) xs = ap suc (fill-length none bs xs)
  fill-length none (true ∷ bs) [] = ap suc (fill-length none bs [])
  fill-length none (true ∷ bs) (x ∷ xs) = ap suc (fill-length none bs xs)

  -- only as many values are used as frames are voiced
  pub fill-front : (none : A) (bs : List Bool) (xs : List A) (n : ℕ) → count bs ≤ n → fill none bs (take n xs) ≡ fill none bs xs
  unfolding fill count
  fill-front none [] xs n h = refl
  fill-front none (false ∷ bs) xs n h = ap (λ (l : List A). none ∷ l) (fill-front none bs xs n h)
  fill-front none (true ∷ bs) xs zero h = absurd (omega arith)
  fill-front none (true ∷ bs) [] (suc n) h = refl
  fill-front none (true ∷ bs) (x ∷ xs) (suc n) h = ap (λ (l : List A). x ∷ l) (fill-front none bs xs n (omega arith))

  fill-append : (none : A) (cs bs : List Bool) (xs : List A) → fill none (cs ++ bs) xs ≡ fill none cs xs ++ fill none bs (drop (count cs) xs)
  unfolding fill count
  fill-append none [] bs xs = refl
  fill-append none (false ∷ cs) bs xs = ap (λ (l : List A). none ∷ l) (fill-append none cs bs xs)
  fill-append none (true ∷ cs) bs [] = ap (λ (l : List A). none ∷ l) (fill-append none cs bs [] ∙ rw (drop-nil (count cs)))
  fill-append none (true ∷ cs) bs (x ∷ xs) = ap (λ (l : List A). x ∷ l) (fill-append none cs bs xs)

-- ---- the frames of a state that is voiced, and of one that is not

module _ {A : Type 0} (none z : A) (v p lanes size d from : ℕ) (work old : List A) where
  state-on : from + d ≤ size → lanes * size ≤ length work
      → sets_lanes v p (λ l. build (λ j. get_or work (from + l * size + j) z) d) lanes old ≡ sets_lanes v p (λ l. fill none (replicate d true) (drop (from + l * size) work)) lanes old
  state-on h b = lanes_same v p _ _ lanes old
      (λ l g. let r : d ≤ length (drop (from + l * size) work) = rw length-drop (omega (arith, row_fits size l lanes g)) in
      sym (build_is _ d (take d (drop (from + l * size) work)) z (length-take-le d _ r) (λ j b. get_or-take d (drop (from + l * size) work) j z b ∙ get_or-drop (from + l * size) work j z))
      ∙ sym (fill_on none d (drop (from + l * size) work) r))

  state-off : sets_lanes v p (λ l. build (λ j. none) d) lanes old ≡ sets_lanes v p (λ l. fill none (replicate d false) (drop (from + l * size) work)) lanes old
  state-off = lanes_same v p _ _ lanes old (λ l g. sym (build_is _ d (replicate d none) z (length-replicate d none) (λ j b. get_or-replicate d j none z b)) ∙ sym (fill-off none d (drop (from + l * size) work)))

-- ---- the first s states' frames of the components from c on are filled: p is the next place, and the next values of a region are k places behind its first ones

module _ {A : Type 0} (none z : A) (v c lanes size a : ℕ) (ds flags : List ℕ) (work old : List A) where
  -- what lane l gets from place k of its values on
  abbrev values : List Bool → ℕ → ℕ → List A
  values bs k l = fill none bs (drop (a + k + l * size) work)

  pub record Filling (out : List A) (s f k p : ℕ) : Type 0 where
    pub passed : Passed ds flags s f k
    pub place : p ≡ f * v + c
    pub long : length out ≡ length old
    pub done : sets_lanes v p (values (drop f (mask_in ds flags)) k) lanes out ≡ sets_lanes v c (values (mask_in ds flags) 0) lanes old

  pub filling : Filling old 0 0 0 c
  filling = record { passed = passed_none; place = omega (arith, zero-mul v); long = refl; done = refl }

  module _ {out : List A} {s f k p : ℕ} (i : Filling out s f k p) where
    pub filled_back : length ds ≤ s → out ≡ sets_lanes v c (values (mask_in ds flags) 0) lanes old
    unfolding fill
    filled_back h = sym (lanes_empty v p lanes out) ∙ (rw (mask_end ds flags s f i.passed.frames h) at i.done)

    module _ (t : s < length ds) {d : ℕ} (o : d ≡ get_or ds s 0) where
      pub filling-room : c + lanes ≤ v → length old ≡ total ds * v → p + d * v + lanes ≤ length out + v
      filling-room h l = omega (arith, i.place, i.long, add-mul f d v, mul-le-mul_right v (passed-fits i.passed t o))

      -- a state's numbers, and those of the states behind it
      filling-next : lanes ≤ v → {y : Bool} → y ≡ goes_on flags f d → {j : ℕ} → j ≡ count (replicate d y) → {w : List A} → w ≡ sets_lanes v p (values (replicate d y) k) lanes out
          → Filling w (s + 1) (f + d) (k + j) (p + d * v)
      filling-next h {y} g {j} z {w} q =
          let bs = drop (f + d) (mask_in ds flags) in
          let lane : (l : ℕ) → values (drop f (mask_in ds flags)) k l ≡ values (replicate d y) k l ++ values bs (k + j) l = λ l.
          let e : a + k + l * size + count (replicate d y) ≡ a + (k + j) + l * size = omega arith in
          rw (passed-run i.passed t o g, fill-append none (replicate d y) bs (drop (a + k + l * size) work), drop-drop, e) in
          record {
            passed = passed-next i.passed t o g z;
            place = omega (arith, i.place, add-mul f d v);
            long = ap length q ∙ lanes_length v p _ lanes out ∙ i.long;
            done = rw (q, ← lanes_append v p d (values (replicate d y) k) (values bs (k + j)) lanes out h (λ l. fill-length none _ _ ∙ length-replicate d y))
                (lanes_same v p _ _ lanes out (λ l b. sym (lane l)) ∙ i.done);
          }

      module _ (h : lanes ≤ v) {w : List A} where
        pub filling-voiced : true ≡ goes_on flags f d → a + k + d ≤ size → lanes * size ≤ length work → w ≡ sets_lanes v p (λ l. build (λ j. get_or work (a + k + l * size + j) z) d) lanes out
            → Filling w (s + 1) (f + d) (k + d) (p + d * v)
        filling-voiced g r b q = filling-next h g (sym (count-all d)) (q ∙ state-on none z v p lanes size d (a + k) work out r b)

        pub filling_unvoiced : false ≡ goes_on flags f d → w ≡ sets_lanes v p (λ l. build (λ j. none) d) lanes out → Filling w (s + 1) (f + d) k (p + d * v)
        filling_unvoiced g q = rw add-zero at (filling-next h g (sym (count_none d)) (q ∙ state-off none z v p lanes size d (a + k) work out))
