-- Trees of places: what a node that is played changes, and that the root of a tree that is kept has the least score.
use mathlib.Core.Path.{◌≡◌, refl, sym, ap, ◌∙◌, subst}
use mathlib.Core.Bool.{true, false}
use mathlib.Core.Logic.{◌⊎◌, inl, inr, ⊎_elim}
use mathlib.Core.List.{List}
use Prim.Native.Nat.{ℕ, zero, suc, ◌+◌, ◌-◌, ◌*◌, ◌/◌, ◌%◌, ◌≤◌, ◌<◌}
use native.Mathlib.Nat.{le_refl, le_trans}
use native.Mathlib.Omega.{arith}
use lib.Dec.{eqb}
use lib.ListN.{length, get_or, set, length-set}
use lib.Seq.{get_or-set_same, get_or-set_other}
use borrow.Author.Tests.{lt-ltb, le-ltb, eqb-true, eqb-false}
use Rattle.lists.proofs.Numbers.{le_or_lt}
use Rattle.steps.specs.declared.costs.Entry.{Entry}
use Rattle.steps.specs.Inner.Scores.{scores, keyed, sooner_of}
use Rattle.steps.specs.Inner.Tree.{node, Lesser, Won, Within, Kept, On, Path}
use Rattle.steps.specs.Inner.Tree.On.{here, over}
use Rattle.steps.proofs.Order.{sooner_lesser}

pub same : (a b : ℕ) → (a ≡ b) ⊎ (a ≡ b → ⊥)
same a b = (elim (eqb a b) as (λ s. eqb a b ≡ s → (a ≡ b) ⊎ (a ≡ b → ⊥)) [ true ↦ λ e. inl (eqb-true a b e) | false ↦ λ e. inr (eqb-false a b e) ]) refl

-- ---- the way up

on-next : {j i : ℕ} → On j i → (j ≡ i) ⊎ On j (i / 2)
on-next (here e) = inl e
on-next (over r e) = inr (⊎_elim (λ q. here (e ∙ ap (λ (n : ℕ). n / 2) q)) (λ s. over s e) (on-next r))

on-zero : {j i : ℕ} → On j i → i ≡ 0 → j ≡ 0
on-zero (here e) z = e ∙ z
on-zero (over r e) z = let h = on-zero r z in omega arith

-- ---- places at nodes

node_inner : (t : List ℕ) (j : ℕ) → j < length t → node t j ≡ get_or t j 0
unfolding node
node_inner t j h = rw (lt-ltb j (length t) h)

pub node-leaf : (t : List ℕ) (p : ℕ) → node t (length t + p) ≡ p
unfolding node
node-leaf t p = rw (le-ltb (length t + p) (length t) (omega arith)) (omega arith)

-- a leaf is a place
leaf : (t : List ℕ) (j : ℕ) → length t ≤ j → node t j ≡ j - length t
leaf t j h = ap (node t) (let e : j ≡ length t + (j - length t) = omega arith in e) ∙ node-leaf t (j - length t)

pub node_in : (t : List ℕ) (i j : ℕ) → Within t i → i ≤ j → j < 2 * length t → node t j < length t
node_in t i j f h l = ⊎_elim (λ (g : length t ≤ j). rw (leaf t j g) (omega arith)) (λ (g : j < length t). rw (node_inner t j g) (f j h g)) (le_or_lt (length t) j)

lesser_in : {S : ℕ → ℕ} {a b v : ℕ} → Lesser S a b v → (n : ℕ) → a < n → b < n → v < n
lesser_in w n h l = ⊎_elim (λ e. omega arith) (λ e. omega arith) w.one

lesser_swap : {S : ℕ → ℕ} {a b v : ℕ} → Lesser S a b v → Lesser S b a v
lesser_swap w = record { one = ⊎_elim (λ e. inr e) (λ e. inl e) w.one; left = w.right; right = w.left }

-- ---- a place is stored at the node i

module _ (t : List ℕ) (i v : ℕ) where
  node-other : (j : ℕ) → (j ≡ i → ⊥) → node (set t i v) j ≡ node t j
  unfolding node
  node-other j ne = rw (length-set t i v, get_or-set_other t i j v 0 ne)

  within-set : (m : ℕ) → i < length t → v < length t → ((j : ℕ) → m ≤ j → (j ≡ i → ⊥) → j < length t → get_or t j 0 < length t) → Within (set t i v) m
  within-set m h l f j g k =
      let n : length (set t i v) ≡ length t = length-set t i v in
      ⊎_elim
      (λ (e : j ≡ i). rw (n, e, get_or-set_same t i v 0 h) l)
      (λ (ne : j ≡ i → ⊥). rw (n, get_or-set_other t i j v 0 ne) (f j g ne (omega arith)))
      (same j i)

  module _ (S : ℕ → ℕ) where
    won-other : (j : ℕ) → (j ≡ i → ⊥) → (2 * j ≡ i → ⊥) → (2 * j + 1 ≡ i → ⊥) → Won S t j → Won S (set t i v) j
    won-other j p q r w = rw (get_or-set_other t i j v 0 p, node-other (2 * j) q, node-other (2 * j + 1) r) w

    module _ (low : 1 ≤ i) (high : i < length t) (w : Lesser S (node t (2 * i)) (node t (2 * i + 1)) v) where
      won-here : Won S (set t i v) i
      won-here = rw (get_or-set_same t i v 0 high, node-other (2 * i) (λ e. omega arith), node-other (2 * i + 1) (λ e. omega arith)) w

      won_in : Within t (i + 1) → v < length t
      won_in f = lesser_in w (length t) (node_in t (i + 1) (2 * i) f (omega arith) (omega arith)) (node_in t (i + 1) (2 * i + 1) f (omega arith) (omega arith))

      -- where all nodes are played, from the last to the root
      pub kept_next : Kept S t (i + 1) → Kept S (set t i v) i
      kept_next k =
          let n : length (set t i v) ≡ length t = length-set t i v in
          record {
            within = within-set i high (won_in k.within) (λ j g ne l. k.within j (omega arith) l);
            won = λ j g l.
                ⊎_elim
                (λ (e : j ≡ i). subst (Won S (set t i v)) (sym e) won-here)
                (λ (ne : j ≡ i → ⊥). won-other j ne (λ e. omega arith) (λ e. omega arith) (k.won j (omega arith) (omega arith)))
                (same j i);
          }

      -- where those above a place are
      path-next : Path S t i → Path S (set t i v) (i / 2)
      path-next k =
          let n : length (set t i v) ≡ length t = length-set t i v in
          record {
            within = within-set 1 high (won_in (λ j g l. k.within j (omega arith) l)) (λ j g ne l. k.within j g l);
            won = λ j g l.
                ⊎_elim
                (λ (e : j ≡ i). inl (subst (Won S (set t i v)) (sym e) won-here))
                (λ (ne : j ≡ i → ⊥).
                ⊎_elim
                (λ (q : j ≡ i / 2). inr (here q))
                (λ (q : j ≡ i / 2 → ⊥).
                ⊎_elim
                (λ (x : Won S t j). inl (won-other j ne (λ z. q (omega arith)) (λ z. q (omega arith)) x))
                (λ (r : On j i). ⊎_elim (λ (z : j ≡ i). absurd (ne z)) (λ s. inr s) (on-next r))
                (k.won j g (omega arith)))
                (same j (i / 2)))
                (same j i);
          }

-- ---- all nodes are played

pub kept-none : (S : ℕ → ℕ) (t : List ℕ) → Kept S t (length t)
kept-none S t = record { within = λ j h l. absurd (omega arith); won = λ j h l. absurd (omega arith) }

-- ---- the nodes above a place are played, up to i: x is the entry at i, and the nodes above it are yet to be played

pub record Climbing (K : ℕ → ℕ) (n : ℕ) (t : List ℕ) (i : ℕ) (x : Entry) : Type 0 where
  pub long : length t ≡ n
  pub low : 1 ≤ i
  pub high : i < 2 * n
  pub stands : x ≡ keyed K (node t i)
  pub path : Path (scores K) t (i / 2)

-- a node and its other are the two of the node above
pair : (S : ℕ → ℕ) (t : List ℕ) (i v : ℕ) → 1 < i → Lesser S (node t i) (node t (i + 1 - 2 * (i % 2))) v → Lesser S (node t (2 * (i / 2))) (node t (2 * (i / 2) + 1)) v
pair S t i v h w =
    ⊎_elim
    (λ (e : i ≡ 2 * (i / 2)).
    let o : i + 1 - 2 * (i % 2) ≡ 2 * (i / 2) + 1 = omega arith in
    subst (λ (j : ℕ). Lesser S (node t j) (node t (2 * (i / 2) + 1)) v) e (subst (λ (j : ℕ). Lesser S (node t i) (node t j) v) o w))
    (λ (ne : i ≡ 2 * (i / 2) → ⊥).
    let e : i ≡ 2 * (i / 2) + 1 = omega arith in
    let o : i + 1 - 2 * (i % 2) ≡ 2 * (i / 2) = omega arith in
    lesser_swap (subst (λ (j : ℕ). Lesser S (node t j) (node t (2 * (i / 2))) v) e (subst (λ (j : ℕ). Lesser S (node t i) (node t j) v) o w)))
    (same i (2 * (i / 2)))

module _ (K : ℕ → ℕ) (n : ℕ) (t : List ℕ) where
  pub climb-start : (p : ℕ) (x : Entry) → length t ≡ n → p < n → x ≡ keyed K (node t (n + p)) → Path (scores K) t ((n + p) / 2) → Climbing K n t (n + p) x
  climb-start p x e h s k = record { long = e; low = omega arith; high = omega arith; stands = s; path = k }

  module _ (i : ℕ) (x : Entry) (c : Climbing K n t i x) where
    pub climb_in : node t i < n
    climb_in = let e : length t ≡ n = c.long in let h : i < 2 * n = c.high in let g : node t i < length t = node_in t 1 i c.path.within c.low (omega arith) in omega arith

    pub climb-end : i ≤ 1 → Kept (scores K) t 1
    climb-end h =
        let z : i / 2 ≡ 0 = omega (arith, c.low) in
        record {
          within = c.path.within;
          won = λ j g l. ⊎_elim (λ (w : Won (scores K) t j). w) (λ (r : On j (i / 2)). absurd (let q : j ≡ 0 = on-zero r z in omega arith)) (c.path.won j g l);
        }

    module _ (h : 1 < i) where
      pub other_in : node t (i + 1 - 2 * (i % 2)) < n
      other_in =
          let e : length t ≡ n = c.long in
          let l : i < 2 * n = c.high in
          let g : node t (i + 1 - 2 * (i % 2)) < length t = node_in t 1 (i + 1 - 2 * (i % 2)) c.path.within (omega arith) (omega arith) in
          omega arith

      pub climb-next : (y r : Entry) → y ≡ keyed K (node t (i + 1 - 2 * (i % 2))) → r ≡ sooner_of x y → Climbing K n (set t (i / 2) r.place) (i / 2) r
      climb-next y r q s =
          let e : length t ≡ n = c.long in
          let l : i < 2 * n = c.high in
          let g : i / 2 < length t = omega arith in
          let w = sooner_lesser K (node t i) (node t (i + 1 - 2 * (i % 2))) x y r c.stands q s in
          let m : length (set t (i / 2) r.place) ≡ length t = length-set t (i / 2) r.place in
          record {
            long = m ∙ e;
            low = omega arith;
            high = omega arith;
            stands = w.0 ∙ ap (keyed K) (sym (node_inner (set t (i / 2) r.place) (i / 2) (omega arith) ∙ get_or-set_same t (i / 2) r.place 0 g));
            path = path-next t (i / 2) r.place (scores K) (omega arith) g (pair (scores K) t i r.place h w.1) c.path;
          }

-- ---- a tree that is kept

module _ (S : ℕ → ℕ) (t : List ℕ) (k : Kept S t 1) where
  -- a node's score is at most that of the nodes below it
  under : (j : ℕ) → 1 < j → j < 2 * length t → S (node t (j / 2)) ≤ S (node t j)
  under j h l =
      let g : j / 2 < length t = omega arith in
      let w : Won S t (j / 2) = k.won (j / 2) (omega arith) g in
      rw (node_inner t (j / 2) g)
      (⊎_elim
      (λ (e : j ≡ 2 * (j / 2)). subst (λ (i : ℕ). S (get_or t (j / 2) 0) ≤ S (node t i)) (sym e) w.left)
      (λ (ne : j ≡ 2 * (j / 2) → ⊥). let e : j ≡ 2 * (j / 2) + 1 = omega arith in subst (λ (i : ℕ). S (get_or t (j / 2) 0) ≤ S (node t i)) (sym e) w.right)
      (same j (2 * (j / 2))))

  root-under : (f j : ℕ) → j ≤ f → 1 ≤ j → j < 2 * length t → S (node t 1) ≤ S (node t j)
  root-under zero j h l u = absurd (omega arith)
  root-under (suc f) j h l u =
      ⊎_elim
      (λ (e : j ≡ 1). subst (λ (i : ℕ). S (node t 1) ≤ S (node t i)) (sym e) (le_refl (S (node t 1))))
      (λ (ne : j ≡ 1 → ⊥). le_trans (root-under f (j / 2) (omega arith) (omega arith) (omega arith)) (under j (omega arith) u))
      (same j 1)

  pub root_least : (p : ℕ) → p < length t → S (node t 1) ≤ S p
  root_least p h = subst (λ (q : ℕ). S (node t 1) ≤ S q) (node-leaf t p) (root-under (length t + p) (length t + p) (omega arith) (omega arith) (omega arith))

  pub root_in : 0 < length t → node t 1 < length t
  root_in h = node_in t 1 1 k.within (omega arith) (omega arith)

  -- a node that holds a place stands above its leaf
  over-leaf : (f i p : ℕ) → 2 * length t ≤ i + f → 1 ≤ i → i < 2 * length t → node t i ≡ p → On i (length t + p)
  over-leaf zero i p h l u e = absurd (omega arith)
  over-leaf (suc f) i p h l u e =
      ⊎_elim
      (λ (g : length t ≤ i). here (let z : i - length t ≡ p = sym (leaf t i g) ∙ e in omega arith))
      (λ (g : i < length t).
      let q : get_or t i 0 ≡ p = sym (node_inner t i g) ∙ e in
      ⊎_elim
      (λ w. over (over-leaf f (2 * i) p (omega arith) (omega arith) (omega arith) (sym w ∙ q)) (omega arith))
      (λ w. over (over-leaf f (2 * i + 1) p (omega arith) (omega arith) (omega arith) (sym w ∙ q)) (omega arith))
      (k.won i l g).one)
      (le_or_lt (length t) i)

  -- so does a node whose child holds it
  over_child : (j c p : ℕ) → 1 ≤ j → j < length t → j ≡ c / 2 → 1 ≤ c → c < 2 * length t → node t c ≡ p → On j ((length t + p) / 2)
  over_child j c p h l e a b q =
      ⊎_elim
      (λ (z : j ≡ length t + p). absurd (omega arith))
      (λ (r : On j ((length t + p) / 2)). r)
      (on-next (over (over-leaf (2 * length t) c p (omega arith) a b q) e))

  -- where one place's score changes, the nodes above it are to be played again
  pub path-start : (S' : ℕ → ℕ) (p : ℕ) → ((q : ℕ) → (q ≡ p → ⊥) → S' q ≡ S q) → Path S' t ((length t + p) / 2)
  path-start S' p else =
      record {
        within = k.within;
        won = λ j h l.
            ⊎_elim
            (λ (e : node t (2 * j) ≡ p). inr (over_child j (2 * j) p h l (omega arith) (omega arith) (omega arith) e))
            (λ (ne : node t (2 * j) ≡ p → ⊥).
            ⊎_elim
            (λ (e : node t (2 * j + 1) ≡ p). inr (over_child j (2 * j + 1) p h l (omega arith) (omega arith) (omega arith) e))
            (λ (ne' : node t (2 * j + 1) ≡ p → ⊥).
            let w : Won S t j = k.won j h l in
            let own : S' (get_or t j 0) ≡ S (get_or t j 0) = else (get_or t j 0) (λ z. ⊎_elim (λ u. ne (sym u ∙ z)) (λ u. ne' (sym u ∙ z)) w.one) in
            inl (record { one = w.one; left = rw (own, else (node t (2 * j)) ne) w.left; right = rw (own, else (node t (2 * j + 1)) ne') w.right }))
            (same (node t (2 * j + 1)) p))
            (same (node t (2 * j)) p);
      }
