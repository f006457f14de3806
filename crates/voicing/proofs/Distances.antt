-- What the loops over flags do at each turn.
use mathlib.Core.Path.{◌≡◌, ◌∙◌}
use mathlib.Core.Bool.{Bool, true, false, cond}
use mathlib.Core.List.{List, ◌∷◌, ◌++◌, map}
use Prim.Native.Nat.{ℕ, suc, ◌+◌, ◌-◌, ◌<◌, ◌≤◌}
use native.Mathlib.Numerals.{add-one}
use native.Mathlib.Omega.{arith}
use lib.ListN.{length, set, take, drop, get_or, length-set, drop_of_length-le}
use lib.Seq.{drop-cons}
use Rattle.lists.proofs.Fills.{stored, finished, stored_back}
use Rattle.lists.specs.Flags.{is_on}
use Rattle.voicing.specs.Boundaries.{ahead, lefts, rights}

-- ---- flags from frame f on

abbrev bools : List ℕ → List Bool
bools ys = map is_on ys

flags_from : (ys : List ℕ) (f : ℕ) → f < length ys → bools (drop f ys) ≡ is_on (get_or ys f 0) ∷ bools (drop (suc f) ys)
flags_from ys f l = rw (drop-cons ys f 0 l)

-- ---- left distances: those before f are stored, and the frames before f end with a run so long

pub record Measuring (flags left : List ℕ) (f run : ℕ) : Type 0 where
  pub within : f ≤ length flags
  pub long : length left ≡ length flags
  pub small : run ≤ f
  pub done : take f left ++ lefts run (bools (drop f flags)) ≡ lefts 0 (bools flags)

module _ (flags left : List ℕ) (f run : ℕ) (k : Measuring flags left f run) where
  pub measured : length flags ≤ f → left ≡ lefts 0 (bools flags)
  unfolding lefts
  measured h = finished left f _ _ (omega (arith, k.long)) (rw (drop_of_length-le flags h)) k.done

  module _ (t : f < length flags) where
    passed : (b : Bool) → bools (drop f flags) ≡ b ∷ bools (drop (suc f) flags) → Measuring flags (set left f (cond b run 0)) (f + 1) (cond b (run + 1) 0)
    unfolding lefts
    passed false e = record {
      within = omega arith;
      long = length-set left f 0 ∙ k.long;
      small = omega arith;
      done = stored left f 0 _ _ (omega (arith, k.long)) (rw add-one (rw e at k.done));
    }
    passed true e = record {
      within = omega arith;
      long = length-set left f run ∙ k.long;
      small = omega (arith, k.small);
      done = stored left f run _ _ (omega (arith, k.long)) (rw (add-one run, add-one f) (rw e at k.done));
    }

    pub measuring-next : {d r : ℕ} → d ≡ cond (is_on (get_or flags f 0)) run 0 → r ≡ cond (is_on (get_or flags f 0)) (run + 1) 0 → Measuring flags (set left f d) (f + 1) r
    measuring-next p q = rw (p, q) (passed (is_on (get_or flags f 0)) (flags_from flags f t))

-- ---- right distances: those from f on are stored, and the frames from f on begin with a run so long

pub record Counting (flags right : List ℕ) (f run : ℕ) : Type 0 where
  pub within : f ≤ length flags
  pub long : length right ≡ length flags
  pub small : run + f ≤ length flags
  pub done : drop f right ≡ rights (bools (drop f flags))
  pub counted : ahead (bools (drop f flags)) ≡ run

pub counting : (flags right : List ℕ) → length right ≡ length flags → Counting flags right (length flags) 0
unfolding rights ahead
counting flags right e =
    let h : length right ≤ length flags = omega arith in
    let g : length flags ≤ length flags = omega arith in
    record { within = g; long = e; small = omega arith; done = rw (drop_of_length-le right h, drop_of_length-le flags g); counted = rw (drop_of_length-le flags g) }

module _ (flags right : List ℕ) (f run : ℕ) (k : Counting flags right f run) where
  pub counted-all : f ≤ 0 → right ≡ rights (bools flags)
  counted-all h = let z : f ≡ 0 = omega arith in rw z at k.done

  module _ (p : 0 < f) where
    last : suc (f - 1) ≡ f
    last = omega arith

    within : f - 1 < length flags
    within = omega (arith, k.within)

    -- the last of them is stored
    back : (x : ℕ) → drop (f - 1) (set right (f - 1) x) ≡ x ∷ drop f right
    back x = stored_back right (f - 1) x (rw k.long within) ∙ rw last

    passed_back : (b : Bool) → bools (drop (f - 1) flags) ≡ b ∷ bools (drop f flags) → Counting flags (set right (f - 1) (cond b run 0)) (f - 1) (cond b (run + 1) 0)
    unfolding rights ahead
    passed_back false z =
        record { within = omega (arith, within); long = length-set right (f - 1) 0 ∙ k.long; small = omega (arith, within); done = back 0 ∙ rw (z, k.done); counted = rw z }
    passed_back true z = record {
      within = omega (arith, within);
      long = length-set right (f - 1) run ∙ k.long;
      small = omega (arith, k.small);
      done = back run ∙ rw (z, k.done, k.counted);
      counted = rw (z, k.counted, add-one run);
    }

    pub counting-next : {d r : ℕ} → d ≡ cond (is_on (get_or flags (f - 1) 0)) run 0 → r ≡ cond (is_on (get_or flags (f - 1) 0)) (run + 1) 0 → Counting flags (set right (f - 1) d) (f - 1) r
    counting-next p q = rw (p, q) (passed_back (is_on (get_or flags (f - 1) 0)) (flags_from flags (f - 1) within ∙ rw last))
