-- Laws of loops that fill a list from the front or from the back, and of lists by a rule.
use mathlib.Core.Path.{◌≡◌, refl, sym, ap, ◌∙◌}
use mathlib.Core.List.{List, [], ◌∷◌, ◌++◌, append_assoc, append-nil}
use Prim.Native.Nat.{ℕ, zero, suc, ◌+◌, ◌<◌, ◌≤◌}
use native.Mathlib.Numerals.{add-one}
use native.Mathlib.Omega.{arith}
use lib.ListN.{length, set, take, drop, get_or, length-append, drop_of_length-le}
use lib.Seq.{take-suc-set, take_all, drop-cons, set_at, get_or_at}
use Rattle.lists.specs.Build.{build}

module _ {A : Type 0} where
  -- from the front: what is done, with the rest as it is to be, is the whole
  pub stored : (out : List A) (f : ℕ) (x : A) (rest whole : List A) → f < length out → take f out ++ (x ∷ rest) ≡ whole → take (f + 1) (set out f x) ++ rest ≡ whole
  stored out f x rest whole l e = rw (add-one, take-suc-set out f x l, append_assoc) e

  -- nothing is left to be done
  pub finished : (out : List A) (f : ℕ) (rest whole : List A) → length out ≤ f → rest ≡ [] → take f out ++ rest ≡ whole → out ≡ whole
  finished out f rest whole l z e = sym (take_all f out l) ∙ sym (append-nil (take f out)) ∙ rw z at e

  -- from the back
  pub stored_back : (out : List A) (f : ℕ) (x : A) → f < length out → drop f (set out f x) ≡ x ∷ drop (suc f) out
  stored_back [] f x l = absurd (omega arith)
  stored_back (y ∷ ys) zero x l = refl
  stored_back (y ∷ ys) (suc f) x l = stored_back ys f x (omega arith)

  -- p is done, and the rest is as it was
  pub fill-next : (p d : List A) (t : ℕ) (v z : A) → length p ≡ t → t < length d → set (p ++ drop t d) t v ≡ (p ++ (v ∷ [])) ++ drop (t + 1) d
  fill-next p d t v z e h = rw (add-one, drop-cons d t z h, set_at p (get_or d t z) (drop (suc t) d) v t e, append_assoc)

  pub fill_done : (p d : List A) (n : ℕ) → length d ≤ n → p ++ drop n d ≡ p
  fill_done p d n h = rw (drop_of_length-le d h, append-nil)

  -- ---- lists by a rule

  module _ (f : ℕ → A) where
    pub build-length : (n : ℕ) → length (build f n) ≡ n
    unfolding build
    build-length zero = refl
    build-length (suc n) = simp length-append (omega (arith, build-length n))

    -- the number at t is stored
    pub build-next : (d g : List A) (t : ℕ) (v z : A) → t < length d → v ≡ f t → g ≡ build f t ++ drop t d → set g t v ≡ build f (t + 1) ++ drop (t + 1) d
    unfolding build
    build-next d g t v z h o e = ap (λ (l : List A). set l t v) e ∙ fill-next (build f t) d t v z (build-length t) h ∙ rw (o, add-one)

    -- what is not stored yet is as it was
    pub build-read : (d g : List A) (t : ℕ) (z : A) → t < length d → g ≡ build f t ++ drop t d → get_or g t z ≡ get_or d t z
    build-read d g t z h e = rw (e, drop-cons d t z h, get_or_at (build f t) (get_or d t z) (drop (suc t) d) z t (build-length t))

    pub build-done : (d g : List A) (t n : ℕ) → t ≡ n → length d ≤ n → g ≡ build f t ++ drop t d → g ≡ build f n
    build-done d g t n o h e = rw (e, o, fill_done (build f n) d n h)
