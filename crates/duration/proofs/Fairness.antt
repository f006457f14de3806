-- The theorem of the fit: what a fit to a target above the sum of the shortest comes to, and with it a speed.
use mathlib.Core.Path.{◌≡◌, refl, sym, ap, ◌∙◌, subst}
use mathlib.Core.Bool.{false, cond}
use mathlib.Core.Logic.{inl, inr, ⊎_elim}
use mathlib.Core.List.{List, [], ◌∷◌}
use Prim.Native.Nat.{ℕ, ◌+◌, ◌≤◌, ◌<◌, max, zero-le}
use native.Mathlib.Omega.{arith}
use lib.Dec.{ltb, leb}
use lib.ListN.{length}
use lib.Ieee.{Float, eq}
use borrow.Author.Tests.{le-ltb, le-leb, lt-leb, ne_eqb, ltb-false}
use Rattle.lists.specs.Ends.{counted}
use Rattle.lists.specs.declared.Refusal.{Refusal}
use Rattle.std.proofs.Common.{Result, Ok, Err}
use Rattle.lists.specs.Sizes.{most_frames}
use Rattle.lists.specs.Totals.{total, gap}
use Rattle.lists.specs.Refusals.{or_else}
use Rattle.lists.proofs.Numbers.{le_or_lt}
use Rattle.floats.specs.Rounding.{rounded_of}
use Rattle.floats.specs.Numbers.{one}
use Rattle.duration.specs.Estimate.{naturals}
use Rattle.steps.specs.Steps.{States, size, least, Outcome, unchanged, settle}
use Rattle.duration.specs.Fit.{rho_for, start_of, fit_to, refusal_to}
use Rattle.duration.specs.Speed.{target_at, fit_at, refusal_at}
use Rattle.lists.specs.Answers.{Answer, answer_of}
use Rattle.duration.specs.Promise.{early_refusal, Says, FitSays, SpeedSays}
use Rattle.duration.specs.Fitting.{distance, Fair, Ample, Accepted}
use Rattle.duration.proofs.Refusals.{lists-fit, cond-none}
use Rattle.duration.proofs.Estimates.{length-estimates, estimates-above}
use Rattle.duration.proofs.Shortest.{Taken, taken-fit}
use Rattle.steps.proofs.Settling.{Pointwise, pointwise_at, settles_total, settles_length, settles_gap, settles_up, settles_down, settles_above, settle_settles}
use Rattle.steps.proofs.Settling.Pointwise.{nil, cons}

-- ---- lists state by state

-- lists of which one is nowhere longer are as far apart as their totals are
distance-up : {xs ys : List ℕ} → Pointwise xs ys → distance xs ys + total xs ≡ total ys
unfolding distance total
distance-up nil = refl
distance-up (cons h p) = omega (arith, distance-up p)

distance-down : {xs ys : List ℕ} → Pointwise ys xs → distance xs ys + total ys ≡ total xs
unfolding distance total
distance-down nil = refl
distance-down (cons h p) = omega (arith, distance-down p)

-- and any two lists are at least that far apart
triangle : (xs ys : List ℕ) → length ys ≡ length xs → gap (total xs) (total ys) ≤ distance xs ys
unfolding distance total
triangle [] [] e = zero-le
triangle [] (y ∷ ys) e = absurd (omega arith)
triangle (x ∷ xs) [] e = absurd (omega arith)
triangle (x ∷ xs) (y ∷ ys) e = omega (arith, triangle xs ys (omega arith))

-- ---- the fit

module _ (ss : States) (t : ℕ) (some : 0 < size ss) (agree : length ss.shortest ≡ size ss) (above : least ss < t) where
  start-length : length (start_of ss t) ≡ size ss
  unfolding start_of
  start-length = length-estimates (rho_for ss t) ss

  start-above : Pointwise ss.shortest (start_of ss t)
  unfolding start_of
  start-above = estimates-above (rho_for ss t) ss agree

  steps_are : fit_to ss t ≡ settle most_frames (rho_for ss t) ss t (start_of ss t)
  unfolding fit_to
  steps_are = rw (ne_eqb (size ss) 0 (λ q. omega arith), lt-leb t (least ss) above)

  module _ (target : t ≤ most_frames) (small : total (start_of ss t) ≤ most_frames) where
    pub fair : Fair ss t (fit_to ss t)
    fair =
        let S : List ℕ = start_of ss t in
        let o : Outcome = settle most_frames (rho_for ss t) ss t S in
        let room : least ss ≤ t = omega arith in
        let q : length S ≡ size ss = start-length in
        let s = settle_settles (rho_for ss t) ss t some agree room most_frames S q (omega (arith, small, target)) in
        let n : length o.durations ≡ size ss = settles_length (rho_for ss t) ss t s ∙ q in
        let sum : total o.durations ≡ t = settles_total (rho_for ss t) ss t s in
        let c : o.changes ≡ gap (total S) t = settles_gap (rho_for ss t) ss t some agree room q s in
        let far : distance S o.durations ≡ gap (total S) t = ⊎_elim
        (λ (l : total S ≤ t). (let d : distance S o.durations + total S ≡ total o.durations = distance-up (settles_up (rho_for ss t) ss t some agree room q l s) in let r : distance S o.durations ≡ gap (total S) t = omega arith in r))
        (λ (l : t < total S). (let d : distance S o.durations + total o.durations ≡ total S = distance-down (settles_down (rho_for ss t) ss t some agree room q (omega arith) s) in let r : distance S o.durations ≡ gap (total S) t = omega arith in r))
        (le_or_lt (total S) t) in
        subst (λ (x : Outcome). Fair ss t x) (sym steps_are)
        (record {
          count = n;
          at_least = λ i h. pointwise_at (settles_above (rho_for ss t) ss t some agree room q start-above s) i;
          sum = sum;
          one_way = ⊎_elim
              (λ (l : total S ≤ t). inl (pointwise_at (settles_up (rho_for ss t) ss t some agree room q l s)))
              (λ (l : t < total S). inr (pointwise_at (settles_down (rho_for ss t) ss t some agree room q (omega arith) s)))
              (le_or_lt (total S) t);
          by_steps = s;
          by_gap = c;
          by_states = c ∙ sym far;
          nearest = λ es e r. (let tri : gap (total S) (total es) ≤ distance S es = triangle S es (e ∙ sym q) in omega arith);
        })

  -- a fit that is not refused
  pub fair-fit : refusal_to ss t ≡ 0 → Fair ss t (fit_to ss t)
  unfolding refusal_to
  fair-fit e =
      let a : ◌≡◌ {A = ℕ} (cond (ltb most_frames t) 7 (cond (leb t (least ss)) 0 (cond (ltb most_frames (total (start_of ss t))) 8 0))) 0 = rw (ne_eqb (size ss) 0 (λ q. omega arith)) at e in
      let b = cond-none (ltb most_frames t) 6 _ a in
      let c : ◌≡◌ {A = ℕ} (cond (ltb most_frames (total (start_of ss t))) 8 0) 0 = rw (lt-leb t (least ss) above) at b.1 in
      fair (ltb-false most_frames t b.0) (ltb-false most_frames (total (start_of ss t)) (cond-none (ltb most_frames (total (start_of ss t))) 7 0 c).0)

-- an answer that is accepted
fitted_is : (r : Result ℕ Refusal) (o : Outcome) → counted r ≡ answer_of 0 (o.changes ∷ []) → r ≡ Ok o.changes
fitted_is (Ok c) o e = let q : c ∷ [] ≡ o.changes ∷ [] = ap (λ (a : Answer). a.values) e in cc
fitted_is (Err k) o e = absurd (let q : ◌≡◌ {A = List ℕ} [] (o.changes ∷ []) = ap (λ (a : Answer). a.values) e in let z : ◌≡◌ {A = ℕ} 0 1 = cc in omega arith)

-- a target that is not above the sum of the shortest
pub shortest-fit : (ss : States) (t : ℕ) → 0 < size ss → t ≤ least ss → fit_to ss t ≡ unchanged ss.shortest
unfolding fit_to
shortest-fit ss t some h = rw (ne_eqb (size ss) 0 (λ q. omega arith), le-leb t (least ss) h)

-- so a fit that is not refused comes to the larger of the two
pub fit-total : (ss : States) (t : ℕ) → 0 < size ss → length ss.shortest ≡ size ss → refusal_to ss t ≡ 0 → total (fit_to ss t).durations ≡ max t (least ss)
fit-total ss t some agree e = ⊎_elim
    (λ (h : t ≤ least ss). ap (λ (o : Outcome). total o.durations) (shortest-fit ss t some h) ∙ (let z : least ss ≡ max t (least ss) = omega arith in z))
    (λ (h : least ss < t). (fair-fit ss t some agree h e).sum ∙ (let z : t ≡ max t (least ss) = omega arith in z))
    (le_or_lt t (least ss))

-- a call of one of the first two kinds whose outcome is the fit to t
module _ (ss : States) (t : ℕ) (out work : List ℕ) (m : Ample ss t out work) where
  early-none : early_refusal ss out work ≡ 0
  early-none =
      let taken : Taken ss.shortest = record { one_each = λ i h. m.one_each i (rw (← m.shortest) h); few = omega (arith, m.above, m.within) } in
      rw (← lists-fit _ _ _ _ _ m.few m.agree m.shortest m.output m.workspace) (taken-fit ss.shortest taken)

  fit_none : refusal_to ss t ≡ 0
  unfolding refusal_to
  fit_none = rw (ne_eqb (size ss) 0 (λ q. omega (arith, m.some)), le-ltb most_frames t m.within, lt-leb t (least ss) m.above, le-ltb most_frames (total (start_of ss t)) m.start)

  accepted : (k : ℕ) (r : Result ℕ Refusal) (out' work' : List ℕ) → k ≡ 0 → Says k ((fit_to ss t).changes ∷ []) (fit_to ss t).durations (size ss) out work (counted r) out' work' → Accepted ss t out r out'
  accepted k r out' work' z f =
      let g : Fair ss t (fit_to ss t) = fair ss t m.some m.shortest m.above m.within m.start in
      record {
        outcome = fit_to ss t;
        answer = fitted_is r (fit_to ss t) (f.answer ∙ ap (λ (n : ℕ). answer_of n ((fit_to ss t).changes ∷ [])) z);
        output = f.output ∙ rw (z, g.count);
        fair = g;
      }

-- The theorem of the fit, of every outcome that the fit's promise allows
pub fit_theorem : (ss : States) (len : Float) (out work : List ℕ) (r : Result ℕ Refusal) (out' work' : List ℕ) → Ample ss (rounded_of len) out work → FitSays ss len out work r out' work' → Accepted ss (rounded_of len) out r out'
fit_theorem ss len out work r out' work' m f = accepted ss (rounded_of len) out work m _ r out' work' (rw (early-none ss (rounded_of len) out work m) (fit_none ss (rounded_of len) out work m)) f

-- the same at a speed other than 1
pub speed_theorem : (ss : States) (speed : Float) (out work : List ℕ) (r : Result ℕ Refusal) (out' work' : List ℕ)
    → Ample ss (target_at ss speed) out work → total (naturals ss) ≤ most_frames → eq speed one ≡ false
    → SpeedSays ss speed out work r out' work' → Accepted ss (target_at ss speed) out r out'
unfolding fit_at refusal_at
speed_theorem ss speed out work r out' work' m n e f =
    let t : ℕ = target_at ss speed in
    let k : ℕ = or_else (early_refusal ss out work) (refusal_at ss speed) in
    let z : k ≡ 0 = rw (early-none ss t out work m, le-ltb most_frames (total (naturals ss)) n, e) (fit_none ss t out work m) in
    let o : fit_at ss speed ≡ fit_to ss t = rw e in
    accepted ss t out work m k r out' work' z (subst (λ (x : Outcome). Says k (x.changes ∷ []) x.durations (size ss) out work (counted r) out' work') o f)
