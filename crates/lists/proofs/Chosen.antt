-- Laws of what is read from a list, and of items that are chosen from one, place after place, and filled back.
use mathlib.Core.Path.{◌≡◌, refl, sym, ap, ◌∙◌}
use mathlib.Core.Bool.{Bool, true, false, cond}
use mathlib.Core.List.{List, [], ◌∷◌, ◌++◌, append-nil, map}
use mathlib.Core.Logic.{⊎_elim}
use Prim.Native.Nat.{ℕ, zero, suc, ◌+◌, ◌-◌, ◌<◌, ◌≤◌, zero-le}
use native.Mathlib.Nat.{add-zero}
use native.Mathlib.Numerals.{add-one}
use native.Mathlib.Omega.{arith}
use lib.Dec.{eqb}
use lib.ListN.{length, take, get_or, replicate, get_or-append}
use lib.Seq.{get_or-append-add}
use Rattle.lists.specs.Build.{build}
use Rattle.lists.specs.Frames.{select, fill, count}
use Rattle.lists.specs.Firsts.{first_at}
use Rattle.lists.proofs.Counts.{count-append}
use Rattle.lists.proofs.Numbers.{le_or_lt}

module _ {A : Type 0} where
  -- within a list it doesn't matter what is read behind its end
  pub at_any : (l : List A) (i : ℕ) (y z : A) → i < length l → get_or l i y ≡ get_or l i z
  at_any [] i y z h = absurd (omega arith)
  at_any (x ∷ l) zero y z h = refl
  at_any (x ∷ l) (suc i) y z h = at_any l i y z (omega arith)

  -- an item of n that others follow, and one of those others
  pub at_first : (us vs : List A) (n f : ℕ) (z : A) → length us ≡ n → f < n → get_or (us ++ vs) f z ≡ get_or us f z
  at_first us vs n f z e h = get_or-append us vs z f (omega arith)

  pub at_second : (us vs : List A) (n f : ℕ) (z : A) → length us ≡ n → get_or (us ++ vs) (n + f) z ≡ get_or vs f z
  at_second us vs n f z e = rw (← e) (get_or-append-add us vs f z)

  -- what holds of each of them holds of all
  pub of_both : (P : ℕ → A → Type 0) (a b : List A) (n k : ℕ) (z : A) → length a ≡ n → ((u : ℕ) → u < n → P u (get_or a u z)) → ((u : ℕ) → u < k → P (n + u) (get_or b u z)) → (u : ℕ) → u < n + k → P u (get_or (a ++ b) u z)
  of_both P a b n k z e f g u h = ⊎_elim
      (λ (l : n ≤ u).
      let q : n + (u - n) ≡ u = omega arith in
      let d : get_or (a ++ b) u z ≡ get_or b (u - n) z = ap (λ (i : ℕ). get_or (a ++ b) i z) (sym q) ∙ at_second a b n (u - n) z e in
      rw d (rw q at (g (u - n) (omega arith))))
      (λ (l : u < n). rw (at_first a b n u z e l) (f u l))
      (le_or_lt n u)

  pub select-append : (bs cs : List Bool) (xs ys : List A) → length xs ≡ length bs → select (bs ++ cs) (xs ++ ys) ≡ select bs xs ++ select cs ys
  unfolding select
  select-append [] cs [] ys e = refl
  select-append [] cs (x ∷ xs) ys e = absurd (omega arith)
  select-append (b ∷ bs) cs [] ys e = absurd (omega arith)
  select-append (true ∷ bs) cs (x ∷ xs) ys e = ap (λ (l : List A). x ∷ l) (select-append bs cs xs ys (omega arith))
  select-append (false ∷ bs) cs (x ∷ xs) ys e = select-append bs cs xs ys (omega arith)

  -- an item that is chosen has as many before it as are chosen before its place
  pub select-at : (bs : List Bool) (xs : List A) (p : ℕ) (z : A) → p < length bs → length xs ≡ length bs → get_or bs p false ≡ true → get_or (select bs xs) (count (take p bs)) z ≡ get_or xs p z
  unfolding select count
  select-at [] xs p z h e t = absurd (omega arith)
  select-at (b ∷ bs) [] p z h e t = absurd (omega arith)
  select-at (true ∷ bs) (x ∷ xs) zero z h e t = refl
  select-at (true ∷ bs) (x ∷ xs) (suc p) z h e t = select-at bs xs p z (omega arith) (omega arith) t
  select-at (false ∷ bs) (x ∷ xs) zero z h e t = absurd (let q : ◌≡◌ {A = ℕ} 0 1 = cc in omega arith)
  select-at (false ∷ bs) (x ∷ xs) (suc p) z h e t = select-at bs xs p z (omega arith) (omega arith) t

  -- what holds of each item whose place is chosen holds of each that is chosen
  pub select-each : (P : A → Type 0) (bs : List Bool) (xs : List A) (z : A) → length xs ≡ length bs → ((i : ℕ) → i < length bs → get_or bs i false ≡ true → P (get_or xs i z)) → (j : ℕ) → j < length (select bs xs) → P (get_or (select bs xs) j z)
  unfolding select
  select-each P [] xs z e k j h = absurd (omega arith)
  select-each P (b ∷ bs) [] z e k j h = absurd (omega arith)
  select-each P (true ∷ bs) (x ∷ xs) z e k zero h = k 0 (omega arith) refl
  select-each P (true ∷ bs) (x ∷ xs) z e k (suc j) h = select-each P bs xs z (omega arith) (λ i g. k (suc i) (omega arith)) j (omega arith)
  select-each P (false ∷ bs) (x ∷ xs) z e k j h = select-each P bs xs z (omega arith) (λ i g. k (suc i) (omega arith)) j h

  -- all of the first, and none of the others
  pub select-front : (xs ys : List A) (k : ℕ) → length ys ≡ k → select (replicate (length xs) true ++ replicate k false) (xs ++ ys) ≡ xs
  unfolding select
  select-front [] [] zero e = refl
  select-front [] [] (suc k) e = absurd (omega arith)
  select-front [] (y ∷ ys) zero e = absurd (omega arith)
  select-front [] (y ∷ ys) (suc k) e = select-front [] ys k (omega arith)
  select-front (x ∷ xs) ys k e = ap (λ (l : List A). x ∷ l) (select-front xs ys k e)

  pub select-all : (n : ℕ) (xs : List A) → length xs ≡ n → select (replicate n true) xs ≡ xs
  select-all n xs e = rw (← e) (rw (append-nil (replicate (length xs) true), append-nil xs) at (select-front xs [] 0 refl))

  -- places that are all chosen are filled back in order
  pub fill_on : (none : A) (d : ℕ) (xs : List A) → d ≤ length xs → fill none (replicate d true) xs ≡ take d xs
  unfolding fill
  fill_on none zero xs h = refl
  fill_on none (suc d) [] h = absurd (omega arith)
  fill_on none (suc d) (x ∷ xs) h = ap (λ (l : List A). x ∷ l) (fill_on none d xs (omega arith))

-- what f makes of the items that are chosen, and of those that are filled back
pub select-map : {A B : Type 0} (f : A → B) (bs : List Bool) (xs : List A) → map f (select bs xs) ≡ select bs (map f xs)
unfolding select
select-map f [] xs = refl
select-map f (b ∷ bs) [] = refl
select-map {B = B} f (true ∷ bs) (x ∷ xs) = ap (λ (l : List B). f x ∷ l) (select-map f bs xs)
select-map f (false ∷ bs) (x ∷ xs) = select-map f bs xs

pub map-fill : {A B : Type 0} (f : A → B) (none : A) (bs : List Bool) (xs : List A) → map f (fill none bs xs) ≡ fill (f none) bs (map f xs)
unfolding fill
map-fill f none [] xs = refl
map-fill f none (false ∷ bs) xs = ap (◌∷◌ (f none)) (map-fill f none bs xs)
map-fill f none (true ∷ bs) [] = ap (◌∷◌ (f none)) (map-fill f none bs [])
map-fill f none (true ∷ bs) (x ∷ xs) = ap (◌∷◌ (f x)) (map-fill f none bs xs)

-- where a number first stands among those that are chosen, if its first place is
pub select-first : (v : ℕ) (bs : List Bool) (xs : List ℕ) → length xs ≡ length bs → first_at v xs < length xs → get_or bs (first_at v xs) false ≡ true → first_at v (select bs xs) ≡ count (take (first_at v xs) bs)
unfolding select count first_at
select-first v [] [] e h t = absurd (omega arith)
select-first v [] (x ∷ xs) e h t = absurd (omega arith)
select-first v (b ∷ bs) [] e h t = absurd (omega arith)
select-first v (true ∷ bs) (x ∷ xs) e h t =
    (elim (eqb x v) as (λ q. cond q 0 (suc (first_at v xs)) < suc (length xs) → get_or (true ∷ bs) (cond q 0 (suc (first_at v xs))) false ≡ true → cond q 0 (suc (first_at v (select bs xs))) ≡ count (take (cond q 0 (suc (first_at v xs))) (true ∷ bs))) [
      | true ↦ λ g s. refl
      | false ↦ λ g s. ap suc (select-first v bs xs (omega arith) (omega arith) s)
    ])
    h
    t
select-first v (false ∷ bs) (x ∷ xs) e h t =
    (elim (eqb x v) as (λ q. cond q 0 (suc (first_at v xs)) < suc (length xs) → get_or (false ∷ bs) (cond q 0 (suc (first_at v xs))) false ≡ true → first_at v (select bs xs) ≡ count (take (cond q 0 (suc (first_at v xs))) (false ∷ bs))) [
      | true ↦ λ g s. absurd (let y : ◌≡◌ {A = ℕ} 0 1 = cc in omega arith)
      | false ↦ λ g s. select-first v bs xs (omega arith) (omega arith) s
    ])
    h
    t

-- and one that isn't there isn't chosen
pub select-none : (v : ℕ) (bs : List Bool) (xs : List ℕ) → first_at v xs ≡ length xs → first_at v (select bs xs) ≡ length (select bs xs)
unfolding select first_at
select-none v [] xs e = refl
select-none v (b ∷ bs) [] e = refl
select-none v (true ∷ bs) (x ∷ xs) e =
    (elim (eqb x v) as (λ q. cond q 0 (suc (first_at v xs)) ≡ suc (length xs) → cond q 0 (suc (first_at v (select bs xs))) ≡ suc (length (select bs xs))) [
      | true ↦ λ g. absurd (omega arith)
      | false ↦ λ g. ap suc (select-none v bs xs (omega arith))
    ])
    e
select-none v (false ∷ bs) (x ∷ xs) e =
    (elim (eqb x v) as (λ q. cond q 0 (suc (first_at v xs)) ≡ suc (length xs) → first_at v (select bs xs) ≡ length (select bs xs)) [
      | true ↦ λ g. absurd (omega arith)
      | false ↦ λ g. select-none v bs xs (omega arith)
    ])
    e

-- how many of the first places are chosen, with one place more
module _ (f : ℕ → Bool) (n : ℕ) where
  count_next : count (build f (n + 1)) ≡ count (build f n) + count (f n ∷ [])
  unfolding build
  count_next = ap (λ (k : ℕ). count (build f k)) (add-one n) ∙ count-append (build f n) (f n ∷ [])

  pub count-on : f n ≡ true → count (build f (n + 1)) ≡ count (build f n) + 1
  unfolding count
  count-on e = count_next ∙ ap (λ (b : Bool). count (build f n) + count (b ∷ [])) e

  pub count-off : f n ≡ false → count (build f (n + 1)) ≡ count (build f n)
  unfolding count
  count-off e = count_next ∙ ap (λ (b : Bool). count (build f n) + count (b ∷ [])) e ∙ add-zero (count (build f n))

-- ---- a loop that counts by a rule has looked at the first i of n places

pub record Counting (f : ℕ → Bool) (n k i : ℕ) : Type 0 where
  pub within : i ≤ n
  pub few : k ≤ i
  pub so_far : k ≡ count (build f i)

pub counting : (f : ℕ → Bool) (n : ℕ) → Counting f n 0 0
unfolding build count
counting f n = record { within = zero-le; few = zero-le; so_far = refl }

module _ {f : ℕ → Bool} {n k i : ℕ} (c : Counting f n k i) where
  pub counted : n ≤ i → k ≡ count (build f n)
  counted h = let e : i ≡ n = omega (arith, c.within) in c.so_far ∙ ap (λ (j : ℕ). count (build f j)) e

  module _ (h : i < n) where
    pub one-here : f i ≡ true → Counting f n (k + 1) (i + 1)
    one-here e = record { within = omega arith; few = omega (arith, c.few); so_far = ap (λ (m : ℕ). m + 1) c.so_far ∙ sym (count-on f i e) }

    pub none_here : f i ≡ false → Counting f n k (i + 1)
    none_here e = record { within = omega arith; few = omega (arith, c.few); so_far = c.so_far ∙ sym (count-off f i e) }
