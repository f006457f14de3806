-- The runs of a mask: where they lie, how far their frames stand from their ends, and what closing up and filling back have to do with them.
use mathlib.Core.Path.{◌≡◌, refl, sym, ap, ◌∙◌}
use mathlib.Core.Bool.{Bool, true, false, cond}
use mathlib.Core.List.{List, [], ◌∷◌, ◌++◌}
use Prim.Native.Nat.{ℕ, zero, suc, ◌+◌, ◌<◌, ◌≤◌}
use native.Mathlib.Omega.{arith}
use lib.ListN.{length, take, drop, get_or}
use lib.Seq.{drop_at, get_or-drop}
use Rattle.lists.specs.Frames.{select, fill}
use Rattle.lists.proofs.Parts.{drop-next, drop-first}
use Rattle.lists.proofs.Regions.{cut-length}
use Rattle.voicing.specs.Boundaries.{ahead, lefts, rights}
use Rattle.voicing.proofs.Runs.{lefts-ahead, rights-ahead}
use Rattle.runs.specs.declared.Run.{Run}
use Rattle.runs.specs.Runs.{runs_from, runs_of, run_at}
use Rattle.runs.specs.Alone.{of_run}

-- ---- how many there are

few_from : (inside : Bool) (p : ℕ) (bs : List Bool) → length (runs_from inside p bs) ≤ length bs
unfolding runs_from
few_from inside p [] = omega arith
few_from inside p (false ∷ bs) = omega (arith, few_from false (suc p) bs)
few_from true p (true ∷ bs) = omega (arith, few_from true (suc p) bs)
few_from false p (true ∷ bs) = omega (arith, few_from true (suc p) bs)

-- there are no more runs than frames
pub runs-few : (bs : List Bool) → length (runs_of bs) ≤ length bs
runs-few bs = few_from false 0 bs

-- ---- the frames that are voiced from here on without a gap

ahead-most : (bs : List Bool) → ahead bs ≤ length bs
unfolding ahead
ahead-most [] = omega arith
ahead-most (true ∷ bs) = omega (arith, ahead-most bs)
ahead-most (false ∷ bs) = omega arith

-- ---- run k

-- of n frames with these distances, a run's
record Lies (n : ℕ) (ls rs : List ℕ) (r : Run) : Type 0 where
  some : 0 < r.frames
  within : r.first + r.frames ≤ n
  left : (u : ℕ) → u < r.frames → get_or ls (r.first + u) 0 ≡ u
  right : (u : ℕ) → u < r.frames → get_or rs (r.first + u) 0 + (u + 1) ≡ r.frames

-- each run from frame p on, with l frames of an open run before it
module _ (n : ℕ) (ls rs : List ℕ) (z : Run) where
  lies_from : (inside : Bool) (l p : ℕ) (bs : List Bool) → p + length bs ≡ n → drop p ls ≡ lefts (cond inside l 0) bs → drop p rs ≡ rights bs
      → (k : ℕ) → k < length (runs_from inside p bs) → Lies n ls rs (get_or (runs_from inside p bs) k z)
  unfolding runs_from lefts rights ahead
  lies_from inside l p [] e a b k h = absurd (omega arith)
  lies_from inside l p (false ∷ bs) e a b k h = lies_from false l (suc p) bs (omega arith) (drop-next p ls a) (drop-next p rs b) k h
  lies_from true l p (true ∷ bs) e a b k h = lies_from true (suc l) (suc p) bs (omega arith) (drop-next p ls a) (drop-next p rs b) k h
  lies_from false l p (true ∷ bs) e a b (suc k) h = lies_from true 1 (suc p) bs (omega arith) (drop-next p ls a) (drop-next p rs b) k (omega arith)
  lies_from false l p (true ∷ bs) e a b zero h = record {
    some = omega arith;
    within = omega (arith, ahead-most bs);
    left = λ u g. sym (get_or-drop p ls u 0) ∙ ap (λ (m : List ℕ). get_or m u 0) a ∙ lefts-ahead 0 (true ∷ bs) u g ∙ omega arith;
    right = λ u g. ap (λ (v : ℕ). v + (u + 1)) (sym (get_or-drop p rs u 0) ∙ ap (λ (m : List ℕ). get_or m u 0) b) ∙ rights-ahead (true ∷ bs) u g;
  }

module _ (bs : List Bool) (k : ℕ) (h : k < length (runs_of bs)) where
  lies : Lies (length bs) (lefts 0 bs) (rights bs) (run_at bs k)
  lies = lies_from (length bs) (lefts 0 bs) (rights bs) _ false 0 0 bs (omega arith) refl refl k h

  pub run-some : 0 < (run_at bs k).frames
  run-some = lies.some

  pub run_lies : (run_at bs k).first + (run_at bs k).frames ≤ length bs
  run_lies = lies.within

  -- it has an item for each of its frames
  pub run_long : {A : Type 0} (xs : List A) → length xs ≡ length bs → length (of_run (run_at bs k) xs) ≡ (run_at bs k).frames
  run_long xs e = cut-length (run_at bs k).first (run_at bs k).frames xs (rw e run_lies)

  -- its frames' distances
  pub run-left : (u : ℕ) → u < (run_at bs k).frames → get_or (lefts 0 bs) ((run_at bs k).first + u) 0 ≡ u
  run-left u l = lies.left u l

  pub run-right : (u : ℕ) → u < (run_at bs k).frames → get_or (rights bs) ((run_at bs k).first + u) 0 + (u + 1) ≡ (run_at bs k).frames
  run-right u l = lies.right u l

-- ---- all runs, one after the other

module _ {A : Type 0} where
  -- the items of their frames
  unfoldable pub closed : List Run → List A → List A
  closed [] xs = []
  closed (r ∷ rs) xs = of_run r xs ++ closed rs xs

  -- the first run has the frames that are voiced from p on, if there are any
  first-closed : (p : ℕ) (bs : List Bool) (xs : List A) → take (ahead bs) (drop p xs) ++ closed (runs_from true p bs) xs ≡ closed (runs_from false p bs) xs
  unfolding ahead runs_from closed
  first-closed p [] xs = refl
  first-closed p (true ∷ bs) xs = refl
  first-closed p (false ∷ bs) xs = refl

  -- from frame p on: those of an open run, and then the runs
  select-from : (p : ℕ) (bs : List Bool) (xs ys : List A) → drop p xs ≡ ys → length ys ≡ length bs → select bs ys ≡ take (ahead bs) ys ++ closed (runs_from true p bs) xs
  unfolding select ahead runs_from closed
  select-from p [] xs ys d e = refl
  select-from p (b ∷ bs) xs [] d e = absurd (omega arith)
  select-from p (true ∷ bs) xs (y ∷ ys) d e = ap (λ (l : List A). y ∷ l) (select-from (suc p) bs xs ys (drop-next p xs d) (omega arith))
  select-from p (false ∷ bs) xs (y ∷ ys) d e = select-from (suc p) bs xs ys (drop-next p xs d) (omega arith) ∙ rw (drop-next p xs d) at (first-closed (suc p) bs xs)

  -- closing up takes just these
  pub select-runs : (bs : List Bool) (xs : List A) → length xs ≡ length bs → select bs xs ≡ closed (runs_of bs) xs
  select-runs bs xs e = select-from 0 bs xs xs refl e ∙ first-closed 0 bs xs

  -- items for each run
  unfoldable pub in_turn : (Run → List A) → List Run → List A
  in_turn f [] = []
  in_turn f (r ∷ rs) = f r ++ in_turn f rs

  module _ (none : A) where
    -- the first items are at the frames that are voiced from here on
    fill-ahead : (bs : List Bool) (xs rest : List A) (t : ℕ) (z : A) → length xs ≡ ahead bs → t < ahead bs → get_or (fill none bs (xs ++ rest)) t z ≡ get_or xs t z
    unfolding ahead fill
    fill-ahead [] xs rest t z e h = absurd (omega arith)
    fill-ahead (false ∷ bs) xs rest t z e h = absurd (omega arith)
    fill-ahead (true ∷ bs) [] rest t z e h = absurd (omega arith)
    fill-ahead (true ∷ bs) (x ∷ xs) rest zero z e h = refl
    fill-ahead (true ∷ bs) (x ∷ xs) rest (suc t) z e h = fill-ahead bs xs rest t z (omega arith) (omega arith)

    fill-next : (bs : List Bool) (xs : List A) → fill none (true ∷ bs) xs ≡ get_or xs 0 none ∷ fill none bs (drop 1 xs)
    unfolding fill
    fill-next bs [] = refl
    fill-next bs (x ∷ xs) = refl

    module _ (f : Run → List A) (sized : (r : Run) → length (f r) ≡ r.frames) (out : List A) (y : Run) (t : ℕ) (z : A) where
      -- from frame p on, where the first items are those of an open run
      fill-from : (inside : Bool) (p : ℕ) (bs : List Bool) (xs : List A) → drop p out ≡ fill none bs xs → drop (cond inside (ahead bs) 0) xs ≡ in_turn f (runs_from inside p bs)
          → (k : ℕ) → k < length (runs_from inside p bs) → t < (get_or (runs_from inside p bs) k y).frames
          → get_or out ((get_or (runs_from inside p bs) k y).first + t) z ≡ get_or (f (get_or (runs_from inside p bs) k y)) t z
      unfolding ahead fill runs_from in_turn
      fill-from inside p [] xs d e k h l = absurd (omega arith)
      fill-from true p (false ∷ bs) xs d e k h l = fill-from false (suc p) bs xs (drop-next p out d) e k h l
      fill-from false p (false ∷ bs) xs d e k h l = fill-from false (suc p) bs xs (drop-next p out d) e k h l
      fill-from true p (true ∷ bs) xs d e k h l = fill-from true (suc p) bs (drop 1 xs) (drop-next p out (d ∙ fill-next bs xs)) (drop-first (ahead bs) xs ∙ e) k h l
      fill-from false p (true ∷ bs) xs d e zero h l =
          let r : Run = record { first = p; frames = suc (ahead bs) } in
          sym (get_or-drop p out t z) ∙ ap (λ (m : List A). get_or m t z) (d ∙ ap (fill none (true ∷ bs)) e) ∙ fill-ahead (true ∷ bs) (f r) (in_turn f (runs_from true (suc p) bs)) t z (sized r) l
      fill-from false p (true ∷ bs) xs d e (suc k) h l =
          let r : Run = record { first = p; frames = suc (ahead bs) } in
          let o = ap (drop r.frames) e ∙ drop_at (f r) (in_turn f (runs_from true (suc p) bs)) r.frames (sized r) in
          fill-from true (suc p) bs (drop 1 xs) (drop-next p out (d ∙ fill-next bs xs)) (drop-first (ahead bs) xs ∙ o) k (omega arith) l

  -- and filling back puts them at its frames
  pub fill-runs : (none : A) (bs : List Bool) (f : Run → List A) → ((r : Run) → length (f r) ≡ r.frames) → (k : ℕ) → k < length (runs_of bs) → (t : ℕ) → t < (run_at bs k).frames → (z : A)
      → get_or (fill none bs (in_turn f (runs_of bs))) ((run_at bs k).first + t) z ≡ get_or (f (run_at bs k)) t z
  fill-runs none bs f sized k h t l z = fill-from none f sized (fill none bs (in_turn f (runs_of bs))) _ t z false 0 bs (in_turn f (runs_of bs)) refl refl k h l
