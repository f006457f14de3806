-- Steps: what one does to the total, and so many of them.
use mathlib.Core.Path.{◌≡◌, refl, sym, ap, ◌∙◌}
use mathlib.Core.Bool.{Bool, true, false}
use mathlib.Core.List.{List}
use Prim.Native.Nat.{ℕ, zero, suc, ◌+◌, ◌-◌, ◌≤◌, ◌<◌, zero-le}
use native.Mathlib.Numerals.{add-one}
use native.Mathlib.Omega.{arith}
use lib.Dec.{ltb, eqb}
use lib.ListN.{length, get_or, set, length-set}
use lib.Ieee.{Float}
use borrow.Author.Tests.{ltb-true, ltb-false, lt-ltb, le-ltb, eqb-true, eqb-false, eq-eqb, ne_eqb}
use Rattle.lists.specs.Sizes.{most_frames}
use Rattle.lists.specs.Totals.{total, gap}
use Rattle.lists.proofs.Sums.{get_or-le-total, total-set}
use Rattle.steps.specs.Steps.{States, size, least, moved, keys, least_of, step, unchanged, once_more, settle}
use Rattle.steps.specs.Inner.Asked.{Ready, RoomFor, MayMove, Aim}
use Rattle.steps.specs.Inner.Rounds.{RoomForAll, stepped}
use Rattle.steps.proofs.Keys.{place_in, place-long}

-- ---- one step

module _ (rho : Float) (ss : States) where
  pub length-step : (up : Bool) (ds : List ℕ) → length (step up rho ss ds) ≡ length ds
  unfolding step
  length-step up ds = length-set ds (least_of (keys up rho ss ds)) (moved up (get_or ds (least_of (keys up rho ss ds)) 0))

  module _ (z : 0 < size ss) (ds : List ℕ) (q : length ds ≡ size ss) where
    pub step_in : (up : Bool) → least_of (keys up rho ss ds) < length ds
    step_in up = rw q (place_in rho ss ds up z)

    pub total-up : total (step true rho ss ds) ≡ total ds + 1
    unfolding step
    total-up =
        let i : ℕ = least_of (keys true rho ss ds) in
        omega (arith, total-set ds i (get_or ds i 0 + 1) (step_in true))

    pub total-down : length ss.shortest ≡ size ss → least ss < total ds → total (step false rho ss ds) + 1 ≡ total ds
    unfolding step
    total-down e h =
        let i : ℕ = least_of (keys false rho ss ds) in
        omega (arith, total-set ds i (get_or ds i 0 - 1) (step_in false), place-long rho ss ds e q h)

-- a step at the place i that was found
module _ (up : Bool) (rho : Float) (ss : States) (ds : List ℕ) (r : Ready ss ds) (i : ℕ) (at : i ≡ least_of (keys up rho ss ds)) where
  pub found_in : i < length ds
  found_in = rw at (step_in rho ss r.some ds r.work up)

  pub found-step : (x : ℕ) → x ≡ moved up (get_or ds i 0) → set ds i x ≡ step up rho ss ds
  unfolding step
  found-step x e = rw (e, at)

pub found-may : (up : Bool) (rho : Float) (ss : States) (ds : List ℕ) → Ready ss ds → (i : ℕ) → i ≡ least_of (keys up rho ss ds) → RoomFor up (least ss) (total ds) → MayMove up (get_or ds i 0)
found-may true rho ss ds r i at h = omega (arith, get_or-le-total ds i, r.small)
found-may false rho ss ds r i at h = let k : get_or ss.shortest i 0 < get_or ds i 0 = rw at (place-long rho ss ds r.shortest r.work h) in omega arith

-- the durations are ready for the next
pub step-ready : (rho : Float) (ss : States) (up : Bool) (ds : List ℕ) → Ready ss ds → RoomFor up (least ss) (total ds) → Ready ss (step up rho ss ds)
step-ready rho ss true ds r h = record { some = r.some; few = r.few; varis = r.varis; shortest = r.shortest; work = length-step rho ss true ds ∙ r.work; small = omega (arith, total-up rho ss r.some ds r.work) }
step-ready rho ss false ds r h = record { some = r.some; few = r.few; varis = r.varis; shortest = r.shortest; work = length-step rho ss false ds ∙ r.work; small = omega (arith, r.small, total-down rho ss r.some ds r.work r.shortest h) }

-- ---- the rule, a turn at a time

module _ (rho : Float) (ss : States) (t : ℕ) where
  pub settle-there : (k : ℕ) (ds : List ℕ) → total ds ≡ t → settle k rho ss t ds ≡ unchanged ds
  unfolding settle
  settle-there zero ds e = refl
  settle-there (suc k) ds e = ap (λ (s : Bool). elim s [ true ↦ unchanged ds | false ↦ once_more (settle k rho ss t (step (ltb (total ds) t) rho ss ds)) ]) (eq-eqb (total ds) t e)

  pub settle-turn : (k : ℕ) (ds : List ℕ) (up : Bool) → (total ds ≡ t → ⊥) → ltb (total ds) t ≡ up → settle (suc k) rho ss t ds ≡ once_more (settle k rho ss t (step up rho ss ds))
  unfolding settle
  settle-turn k ds up d e =
      ap (λ (s : Bool). elim s [ true ↦ unchanged ds | false ↦ once_more (settle k rho ss t (step (ltb (total ds) t) rho ss ds)) ]) (ne_eqb (total ds) t d)
      ∙ ap (λ (v : Bool). once_more (settle k rho ss t (step v rho ss ds))) e

  -- no more changes than the steps that it is given
  pub settle-few : (k : ℕ) (ds : List ℕ) → (settle k rho ss t ds).changes ≤ k
  settle-few zero ds = unfold settle in zero-le
  settle-few (suc k) ds =
      (elim (eqb (total ds) t) as (λ s. eqb (total ds) t ≡ s → (settle (suc k) rho ss t ds).changes ≤ suc k) [
        | true ↦ λ e. rw (settle-there (suc k) ds (eqb-true (total ds) t e)) zero-le
        | false ↦ λ e. rw (settle-turn k ds (ltb (total ds) t) (eqb-false (total ds) t e) refl) (omega (arith, settle-few k (step (ltb (total ds) t) rho ss ds)))
      ])
      refl

-- ---- so many steps

-- how a total goes to its end by k steps up (true) or down (false)
abbrev pub Counted : Bool → ℕ → ℕ → ℕ → Type 0
Counted true sum k end = end ≡ sum + k
Counted false sum k end = end + k ≡ sum

module _ (up : Bool) (rho : Float) (ss : States) (ds : List ℕ) where
  -- one more
  pub stepped-more : (k : ℕ) → step up rho ss (stepped up rho ss ds k) ≡ stepped up rho ss ds (k + 1)
  unfolding stepped
  stepped-more k = rw add-one refl

  pub stepped_all : (j k : ℕ) → j ≡ k → stepped up rho ss ds j ≡ stepped up rho ss ds k
  stepped_all j k e = ap (stepped up rho ss ds) e

  -- the first goes before the rest
  stepped-first : (k : ℕ) → stepped up rho ss (step up rho ss ds) k ≡ stepped up rho ss ds (suc k)
  unfolding stepped
  stepped-first zero = refl
  stepped-first (suc k) = ap (step up rho ss) (stepped-first k)

  pub record Rounds (k : ℕ) : Type 0 where
    pub ready : Ready ss (stepped up rho ss ds k)
    pub sum : Counted up (total ds) k (total (stepped up rho ss ds k))

  room_next : (n k : ℕ) → RoomForAll up (least ss) (total ds) n → k < n → Rounds k → RoomFor up (least ss) (total (stepped up rho ss ds k))
  room_next n k h l g =
      (elim up as (λ u. RoomForAll u (least ss) (total ds) n → Counted u (total ds) k (total (stepped up rho ss ds k)) → RoomFor u (least ss) (total (stepped up rho ss ds k))) [
        | true ↦ λ a b. omega arith
        | false ↦ λ a b. omega arith
      ])
      h g.sum

pub rounds : (up : Bool) (rho : Float) (ss : States) (ds : List ℕ) → Ready ss ds → (n k : ℕ) → RoomForAll up (least ss) (total ds) n → k ≤ n → Rounds up rho ss ds k
unfolding stepped
rounds true rho ss ds r n zero h l = record { ready = r; sum = omega arith }
rounds false rho ss ds r n zero h l = record { ready = r; sum = omega arith }
rounds true rho ss ds r n (suc k) h l =
    let g = rounds true rho ss ds r n k h (omega arith) in
    let es : List ℕ = stepped true rho ss ds k in
    record {
      ready = step-ready rho ss true es g.ready (room_next true rho ss ds n k h (omega arith) g);
      sum = omega (arith, g.sum, total-up rho ss r.some es g.ready.work);
    }
rounds false rho ss ds r n (suc k) h l =
    let g = rounds false rho ss ds r n k h (omega arith) in
    let es : List ℕ = stepped false rho ss ds k in
    let room : RoomFor false (least ss) (total es) = room_next false rho ss ds n k h (omega arith) g in
    record {
      ready = step-ready rho ss false es g.ready room;
      sum = omega (arith, g.sum, total-down rho ss r.some es g.ready.work r.shortest room);
    }

-- the durations are ready for each of them
pub round-ready : (up : Bool) (rho : Float) (ss : States) (ds : List ℕ) → Ready ss ds → (n k : ℕ) → RoomForAll up (least ss) (total ds) n → k < n → Ready ss (stepped up rho ss ds k) × RoomFor up (least ss) (total (stepped up rho ss ds k))
round-ready up rho ss ds r n k h l = let g : Rounds up rho ss ds k = rounds up rho ss ds r n k h (omega arith) in (g.ready, room_next up rho ss ds n k h l g)

-- ---- the rule takes as many as the total is away from the target

module _ (rho : Float) (ss : States) (t : ℕ) where
  way_is : (up : Bool) (sum k : ℕ) → Counted up sum (suc k) t → ltb sum t ≡ up
  way_is true sum k c = lt-ltb sum t (omega arith)
  way_is false sum k c = le-ltb sum t (omega arith)

  apart : (up : Bool) (sum k : ℕ) → Counted up sum (suc k) t → sum ≡ t → ⊥
  apart true sum k c e = omega arith
  apart false sum k c e = omega arith

  first_room : (up : Bool) (sum k : ℕ) → RoomForAll up (least ss) sum (suc k) → RoomFor up (least ss) sum
  first_room true sum k h = omega arith
  first_room false sum k h = omega arith

  record Left (up : Bool) (ds : List ℕ) (k : ℕ) : Type 0 where
    ready : Ready ss ds
    room : RoomForAll up (least ss) (total ds) k
    count : Counted up (total ds) k t

  left-next : (up : Bool) (ds : List ℕ) (k : ℕ) → Left up ds (suc k) → Left up (step up rho ss ds) k
  left-next true ds k g =
      let u = total-up rho ss g.ready.some ds g.ready.work in
      record { ready = step-ready rho ss true ds g.ready (first_room true (total ds) k g.room); room = omega (arith, u, g.room); count = omega (arith, u, g.count) }
  left-next false ds k g =
      let room : RoomFor false (least ss) (total ds) = first_room false (total ds) k g.room in
      let d = total-down rho ss g.ready.some ds g.ready.work g.ready.shortest room in
      record { ready = step-ready rho ss false ds g.ready room; room = omega (arith, d, g.room); count = omega (arith, d, g.count) }

  there-already : (up : Bool) (ds : List ℕ) → Left up ds 0 → total ds ≡ t
  there-already true ds g = omega (arith, g.count)
  there-already false ds g = omega (arith, g.count)

  settle_stepped : (up : Bool) (most k : ℕ) (ds : List ℕ) → k ≤ most → Left up ds k → settle most rho ss t ds ≡ record { durations = stepped up rho ss ds k; changes = k }
  unfolding stepped
  settle_stepped up most zero ds l g = settle-there rho ss t most ds (there-already up ds g)
  settle_stepped up zero (suc k) ds l g = absurd (omega arith)
  settle_stepped up (suc m) (suc k) ds l g =
      settle-turn rho ss t m ds up (apart up (total ds) k g.count) (way_is up (total ds) k g.count)
      ∙ ap once_more (settle_stepped up m k (step up rho ss ds) (omega arith) (left-next up ds k g))
      ∙ ap (λ (es : List ℕ). record { durations = es; changes = suc k }) (stepped-first up rho ss ds k)

  module _ (sum : ℕ) (ds : List ℕ) (r : Ready ss ds) (a : Aim ss ds sum t) where
    aimed-at : RoomForAll (ltb sum t) (least ss) (total ds) (gap sum t) × Counted (ltb sum t) (total ds) (gap sum t) t
    aimed-at =
        (elim (ltb sum t) as (λ up. ltb sum t ≡ up → RoomForAll up (least ss) (total ds) (gap sum t) × Counted up (total ds) (gap sum t) t) [
          | true ↦ λ e. let h : sum < t = ltb-true sum t e in (omega (arith, a.known, a.within), omega (arith, a.known))
          | false ↦ λ e. let h : t ≤ sum = ltb-false sum t e in (omega (arith, a.known, a.above), omega (arith, a.known))
        ])
        refl

    -- there is room for them
    pub settle-room : (k : ℕ) → k ≡ gap sum t → RoomForAll (ltb sum t) (least ss) (total ds) k
    settle-room k q = rw q aimed-at.0

    pub settle-steps : (k : ℕ) (es : List ℕ) → k ≡ gap sum t → es ≡ stepped (ltb sum t) rho ss ds k → settle most_frames rho ss t ds ≡ record { durations = es; changes = k }
    settle-steps k es q e =
        settle_stepped (ltb sum t) most_frames k ds (omega (arith, r.small, a.known, a.within, q)) (record { ready = r; room = rw q aimed-at.0; count = rw q aimed-at.1 })
        ∙ ap (λ (xs : List ℕ). record { durations = xs; changes = k }) (sym e)
