-- The tournament over a packed list: all nodes are played, then those above a state that a step changed.
use mathlib.Core.Path.{◌≡◌, refl, sym, ap, ◌∙◌, subst}
use mathlib.Core.Bool.{Bool, true, false}
use mathlib.Core.List.{List}
use Prim.Native.Nat.{ℕ, ◌+◌, ◌-◌, ◌*◌, ◌/◌, ◌%◌, ◌≤◌, ◌<◌}
use native.Mathlib.Omega.{arith}
use lib.ListN.{length, get_or}
use lib.Seq.{get_or-set_other}
use lib.Ieee.{Float}
use Rattle.lists.specs.Sizes.{most_frames, most_states}
use Rattle.lists.specs.Totals.{total}
use Rattle.lists.proofs.Sums.{get_or-le-total}
use Rattle.steps.specs.declared.costs.Entry.{Entry}
use Rattle.steps.specs.Steps.{States, size, least, moved, keys, least_of, step}
use Rattle.steps.specs.Inner.Scores.{key_at, scores, keyed, sooner_of}
use Rattle.steps.specs.Inner.Tree.{node, Kept, Path}
use Rattle.steps.specs.Inner.Pack.{width, lows, highs}
use Rattle.steps.specs.Inner.Asked.{Ready, RoomFor, MayMove, PutsDuration, PutsPlace, Standing, Plays, Stepped}
use Rattle.steps.specs.Inner.Rounds.{RoomForAll, stepped}
use Rattle.steps.proofs.Order.{sooner_lesser}
use Rattle.steps.proofs.Keys.{least-place}
use Rattle.steps.proofs.Nodes.{node-leaf, node_in, kept-none, kept_next, Climbing, climb-start, climb_in, other_in, climb-next, climb-end, root_least, root_in, path-start}
use Rattle.steps.proofs.Packs.{length-lows, length-highs, lows-plain}
use Rattle.steps.proofs.Stepping.{found_in, found-may, found-step, step-ready, stepped-more, round-ready}

place_of : (p k : ℕ) (x : Entry) → x ≡ record { place = p; key = k } → x.place ≡ p
place_of p k x e = ap (λ (y : Entry). y.place) e

-- a list whose durations are those of another is as ready
pub ready-same : (ss : States) (start w : List ℕ) → lows w ≡ lows start → Ready ss (lows start) → Ready ss (lows w)
ready-same ss start w e r = subst (Ready ss) (sym e) r

-- durations alone are as ready when they are packed
pub packed-ready : (ss : States) (ds : List ℕ) → Ready ss ds → Ready ss (lows ds)
packed-ready ss ds r = subst (Ready ss) (sym (lows-plain ds r.small)) r

-- one number a state
pub sized : (ss : States) (w : List ℕ) → Ready ss (lows w) → length w ≡ size ss
sized ss w r = sym (length-lows w) ∙ r.work

-- the leaf of a place holds it
pub leaf_in : (ss : States) (w : List ℕ) → Ready ss (lows w) → (p : ℕ) → p < size ss → node (highs w) (length w + p) < size ss
leaf_in ss w r p h = let e : length (highs w) ≡ length w = length-highs w in let z : node (highs w) (length (highs w) + p) ≡ p = node-leaf (highs w) p in rw (← e, z) h

module _ (up : Bool) (rho : Float) (ss : States) (start : List ℕ) where
  abbrev S : ℕ → ℕ
  S = scores (key_at up rho ss (lows start))

  -- the entry of a place, of a list with these durations
  entry_here : (w : List ℕ) → lows w ≡ lows start → (x : Entry) (p : ℕ) → x ≡ keyed (key_at up rho ss (lows w)) p → x ≡ keyed (key_at up rho ss (lows start)) p
  entry_here w e x p q = q ∙ ap (λ (ds : List ℕ). keyed (key_at up rho ss ds) p) e

  plays : (w : List ℕ) → lows w ≡ lows start → Kept S (highs w) 1 → Plays up rho ss start w
  plays w e k = record { durations = e; tree = subst (λ (ds : List ℕ). Kept (scores (key_at up rho ss ds)) (highs w) 1) (sym e) k }

  -- ---- the nodes from i on are played

  pub record Playing (w : List ℕ) (i : ℕ) : Type 0 where
    pub durations : lows w ≡ lows start
    pub long : length w ≡ length start
    pub low : 1 ≤ i
    pub high : i ≤ length w
    pub tree : Kept (scores (key_at up rho ss (lows start))) (highs w) i

  pub playing : Ready ss (lows start) → Playing start (length start)
  playing r =
      let e : length (lows start) ≡ length start = length-lows start in
      record { durations = refl; long = refl; low = omega (arith, r.some, r.work); high = omega arith; tree = subst (Kept S (highs start)) (length-highs start) (kept-none S (highs start)) }

  module _ (r : Ready ss (lows start)) (w : List ℕ) (i : ℕ) (g : Playing w i) where
    pub played : i ≤ 1 → Plays up rho ss start w
    played h = let e : i ≡ 1 = omega (arith, g.low) in plays w g.durations (subst (Kept S (highs w)) e g.tree)

    pub child_in : 1 < i → (j : ℕ) → 2 * (i - 1) ≤ j → j ≤ 2 * (i - 1) + 1 → node (highs w) j < size ss
    child_in h j a b =
        let e : length (highs w) ≡ length w = length-highs w in
        let n : length w ≡ size ss = g.long ∙ sized ss start r in
        let l : i ≤ length w = g.high in
        let m : node (highs w) j < length (highs w) = node_in (highs w) i j g.tree.within (omega arith) (omega arith) in
        omega arith

    pub children_fit : 1 < i → (x y : Entry) → x ≡ keyed (key_at up rho ss (lows w)) (node (highs w) (2 * (i - 1))) → y ≡ keyed (key_at up rho ss (lows w)) (node (highs w) (2 * (i - 1) + 1)) → (x.place < most_states) × (y.place < most_states)
    children_fit h x y p q =
        let f : size ss ≤ most_states = r.few in
        let a : node (highs w) (2 * (i - 1)) < size ss = child_in h (2 * (i - 1)) (omega arith) (omega arith) in
        let b : node (highs w) (2 * (i - 1) + 1) < size ss = child_in h (2 * (i - 1) + 1) (omega arith) (omega arith) in
        let c : x.place ≡ node (highs w) (2 * (i - 1)) = place_of _ _ x p in
        let d : y.place ≡ node (highs w) (2 * (i - 1) + 1) = place_of _ _ y q in
        (omega arith, omega arith)

    pub playing-next : 1 < i → (x y v : Entry) → x ≡ keyed (key_at up rho ss (lows w)) (node (highs w) (2 * (i - 1))) → y ≡ keyed (key_at up rho ss (lows w)) (node (highs w) (2 * (i - 1) + 1)) → v ≡ sooner_of x y → (w' : List ℕ) → length w' ≡ length w → PutsPlace w (i - 1) v.place w' → Playing w' (i - 1)
    playing-next h x y v p q s w' l t =
        let e : length (highs w) ≡ length w = length-highs w in
        let b : i ≤ length w = g.high in
        let one : i ≡ i - 1 + 1 = omega arith in
        let won = sooner_lesser (key_at up rho ss (lows start)) (node (highs w) (2 * (i - 1))) (node (highs w) (2 * (i - 1) + 1)) x y v (entry_here w g.durations x _ p) (entry_here w g.durations y _ q) s in
        record {
          durations = t.durations ∙ g.durations;
          long = l ∙ g.long;
          low = omega arith;
          high = omega arith;
          tree = subst (λ (z : List ℕ). Kept S z (i - 1)) (sym t.tree) (kept_next (highs w) (i - 1) v.place S (omega arith) (omega arith) won.1 (subst (Kept S (highs w)) one g.tree));
        }

  -- ---- the nodes above a place are played up to i, whose entry is x

  pub record Rising (w : List ℕ) (i : ℕ) (x : Entry) : Type 0 where
    pub durations : lows w ≡ lows start
    pub long : length w ≡ length start
    pub climb : Climbing (key_at up rho ss (lows start)) (size ss) (highs w) i x

  module _ (r : Ready ss (lows start)) where
    pub rising : (p : ℕ) (x : Entry) → p < size ss → Path S (highs start) ((size ss + p) / 2) → x ≡ keyed (key_at up rho ss (lows start)) (node (highs start) (length start + p)) → Rising start (length start + p) x
    rising p x h k e =
        let n : length start ≡ size ss = sized ss start r in
        record { durations = refl; long = refl; climb = subst (λ (m : ℕ). Climbing (key_at up rho ss (lows start)) (size ss) (highs start) (m + p) x) (sym n) (climb-start (key_at up rho ss (lows start)) (size ss) (highs start) p x (length-highs start ∙ n) h (subst (λ (m : ℕ). x ≡ keyed (key_at up rho ss (lows start)) (node (highs start) (m + p))) n e) k) }

    module _ (w : List ℕ) (i : ℕ) (x : Entry) (g : Rising w i x) where
      pub risen : i ≤ 1 → Plays up rho ss start w
      risen h = plays w g.durations (climb-end (key_at up rho ss (lows start)) (size ss) (highs w) i x g.climb h)

      module _ (h : 1 < i) where
        pub facing_in : node (highs w) (i + 1 - 2 * (i % 2)) < size ss
        facing_in = other_in (key_at up rho ss (lows start)) (size ss) (highs w) i x g.climb h

        module _ (y : Entry) (q : y ≡ keyed (key_at up rho ss (lows w)) (node (highs w) (i + 1 - 2 * (i % 2)))) where
          pub facing_fit : (x.place < most_states) × (y.place < most_states)
          facing_fit =
              let f : size ss ≤ most_states = r.few in
              let a : node (highs w) i < size ss = climb_in (key_at up rho ss (lows start)) (size ss) (highs w) i x g.climb in
              let b : node (highs w) (i + 1 - 2 * (i % 2)) < size ss = facing_in in
              let c : x.place ≡ node (highs w) i = place_of _ _ x g.climb.stands in
              let d : y.place ≡ node (highs w) (i + 1 - 2 * (i % 2)) = place_of _ _ y q in
              (omega arith, omega arith)

          pub rising-next : (v : Entry) → v ≡ sooner_of x y → (w' : List ℕ) → length w' ≡ length w → PutsPlace w (i / 2) v.place w' → Rising w' (i / 2) v
          rising-next v s w' l t =
              record {
                durations = t.durations ∙ g.durations;
                long = l ∙ g.long;
                climb = subst (λ (z : List ℕ). Climbing (key_at up rho ss (lows start)) (size ss) z (i / 2) v) (sym t.tree) (climb-next (key_at up rho ss (lows start)) (size ss) (highs w) i x g.climb h y v (entry_here w g.durations y _ q) s);
              }

-- ---- a step, of the state p at the root

moved-small : (up : Bool) (ds : List ℕ) (p n : ℕ) → total ds ≤ most_frames → RoomFor up n (total ds) → moved up (get_or ds p 0) ≤ most_frames
moved-small true ds p n h r = omega (arith, get_or-le-total ds p)
moved-small false ds p n h r = omega (arith, get_or-le-total ds p)

module _ (up : Bool) (rho : Float) (ss : States) (w : List ℕ) (r : Ready ss (lows w)) (room : RoomFor up (least ss) (total (lows w))) (k : Standing up rho ss w) (p : ℕ) (at : p ≡ node (highs w) 1) where
  wide : length (highs w) ≡ size ss
  wide = length-highs w ∙ sized ss w r

  root_is : p ≡ least_of (keys up rho ss (lows w))
  root_is =
      let n : length (highs w) ≡ size ss = wide in
      let z : node (highs w) 1 < length (highs w) = root_in (scores (key_at up rho ss (lows w))) (highs w) k (omega (arith, r.some)) in
      least-place up rho ss (lows w) r.few p (omega arith)
      (λ j h. rw at (root_least (scores (key_at up rho ss (lows w))) (highs w) k j (omega arith)))

  pub root-place : p < length w
  root-place = let e : length (lows w) ≡ length w = length-lows w in let h : p < length (lows w) = found_in up rho ss (lows w) r p root_is in omega arith

  pub root-inside : p < size ss
  root-inside = let e : length w ≡ size ss = sized ss w r in let h : p < length w = root-place in omega arith

  module _ (d : ℕ) (q : d ≡ get_or (lows w) p 0) where
    pub root_moves : MayMove up d
    root_moves = rw q (found-may up rho ss (lows w) r p root_is room)

    module _ (m : ℕ) (s : m ≡ moved up d) where
      pub root-small : m < width
      root-small = let h : moved up (get_or (lows w) p 0) ≤ most_frames = moved-small up (lows w) p (least ss) r.small room in let e : m ≡ moved up (get_or (lows w) p 0) = s ∙ ap (moved up) q in omega arith

      module _ (w' : List ℕ) (t : PutsDuration w p m w') where
        root-steps : lows w' ≡ step up rho ss (lows w)
        root-steps = t.durations ∙ found-step up rho ss (lows w) r p root_is m (s ∙ ap (moved up) q)

        pub root-ready : Ready ss (lows w')
        root-ready = subst (Ready ss) (sym root-steps) (step-ready rho ss up (lows w) r room)

        others : (j : ℕ) → (j ≡ p → ⊥) → scores (key_at up rho ss (lows w')) j ≡ scores (key_at up rho ss (lows w)) j
        unfolding key_at
        others j ne = rw (t.durations, get_or-set_other (lows w) p j m 0 ne)

        pub root-path : Path (scores (key_at up rho ss (lows w'))) (highs w') ((size ss + p) / 2)
        root-path =
            let n : length (highs w) ≡ size ss = wide in
            rw t.tree (subst (λ (i : ℕ). Path (scores (key_at up rho ss (lows w'))) (highs w) ((i + p) / 2)) n (path-start (scores (key_at up rho ss (lows w))) (highs w) k (scores (key_at up rho ss (lows w'))) p others))

        pub root-stepped : (w'' : List ℕ) → Plays up rho ss w' w'' → Stepped up rho ss w w''
        root-stepped w'' g = record { durations = g.durations ∙ root-steps; tree = g.tree }

-- ---- so many steps, from a tree that is played over durations alone

module _ (up : Bool) (rho : Float) (ss : States) (plain : List ℕ) where
  pub record Tended (w : List ℕ) (k : ℕ) : Type 0 where
    pub durations : lows w ≡ stepped up rho ss plain k
    pub tree : Standing up rho ss w

  pub tended : (w : List ℕ) → Ready ss plain → Plays up rho ss plain w → Tended w 0
  unfolding stepped
  tended w r g = record { durations = g.durations ∙ lows-plain plain r.small; tree = g.tree }

  -- another may be taken
  pub tended-asks : (w : List ℕ) (n k : ℕ) → Ready ss plain → RoomForAll up (least ss) (total plain) n → k < n → Tended w k → Ready ss (lows w) × RoomFor up (least ss) (total (lows w))
  tended-asks w n k r h l g = rw g.durations (round-ready up rho ss plain r n k h l)

  pub tended-next : (w w' : List ℕ) (k : ℕ) → Tended w k → Stepped up rho ss w w' → Tended w' (k + 1)
  tended-next w w' k g s = record { durations = s.durations ∙ ap (step up rho ss) g.durations ∙ stepped-more up rho ss plain k; tree = s.tree }
