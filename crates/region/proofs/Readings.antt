-- Laws of numbers read from a list, its parts, and a list into which numbers are stored.
use mathlib.Core.Path.{◌≡◌, refl, sym, ap, ◌∙◌}
use mathlib.Core.List.{List, [], ◌∷◌}
use Prim.Native.Nat.{ℕ, zero, suc, ◌+◌, ◌<◌, ◌≤◌}
use native.Mathlib.Omega.{arith}
use lib.ListN.{length, set, take, drop}
use lib.Seq.{sets, get_or-take, get_or-drop, get_or-set_other, take-take, drop-drop}
use lib.Ieee.{Float, nan}
use Rattle.region.specs.Rows.{elem}
use Rattle.lists.specs.Parts.{part}

pub part_elem : (o n t : ℕ) (l : List Float) → t < n → elem l (o + t) ≡ elem (part o n l) t
part_elem o n t l h = sym (get_or-take n (drop o l) t nan h ∙ get_or-drop o l t nan)

-- a part of a part
part-take : (o k s : ℕ) (l : List Float) → o + k ≤ s → part o k (take s l) ≡ part o k l
part-take zero k s l h = take-take k s l (omega arith)
part-take (suc o) k zero l h = absurd (omega arith)
part-take (suc o) k (suc s) [] h = refl
part-take (suc o) k (suc s) (x ∷ xs) h = part-take o k s xs (omega arith)

pub part-part : (o k a s : ℕ) (l : List Float) → o + k ≤ s → part o k (part a s l) ≡ part (a + o) k l
part-part o k a s l h = part-take o k s (drop a l) h ∙ ap (take k) (drop-drop o a l)

-- stores behind a place, and stores before it
pub read_under : (vs l : List Float) (i j : ℕ) → j < i → elem (sets l i vs) j ≡ elem l j
read_under [] l i j h = refl
read_under (v ∷ vs) l i j h = read_under vs (set l i v) (suc i) j (omega arith) ∙ get_or-set_other l i j v nan (λ (e : j ≡ i). omega arith)

pub read-beyond : (vs l : List Float) (i j : ℕ) → i + length vs ≤ j → elem (sets l i vs) j ≡ elem l j
read-beyond [] l i j h = refl
read-beyond (v ∷ vs) l i j h = read-beyond vs (set l i v) (suc i) j (omega arith) ∙ get_or-set_other l i j v nan (λ (e : j ≡ i). omega arith)
