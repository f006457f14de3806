-- Closing a group of states in its place.
use mathlib.Core.Path.{◌≡◌, refl, sym, ap, ◌∙◌}
use mathlib.Core.Bool.{Bool, true, false, cond}
use mathlib.Core.Logic.{⊎_elim}
use mathlib.Core.List.{List, [], ◌∷◌, ◌++◌}
use Prim.Native.Nat.{ℕ, zero, suc, ◌+◌, ◌-◌, ◌≤◌, ◌<◌, min, max, zero-le}
use native.Mathlib.Omega.{arith}
use lib.Dec.{ltb}
use lib.ListN.{length, take, drop, length-take, take-append-drop}
use lib.Ieee.{Float}
use borrow.Author.Tests.{lt-ltb, le-ltb, ltb-false}
use Rattle.lists.specs.Ends.{counted}
use Rattle.lists.specs.declared.Refusal.TheVariants.{EstimateTooLong}
use Rattle.lists.specs.declared.Refusal.{Refusal}
use Rattle.std.proofs.Common.{Result, Ok, Err}
use Rattle.duration.specs.declared.align.End.{End}
use Rattle.duration.specs.declared.align.End.TheVariants.{At, Open}
use Rattle.lists.specs.Sizes.{most_frames}
use Rattle.lists.specs.Totals.{total}
use Rattle.lists.proofs.Numbers.{le_or_lt}
use Rattle.lists.proofs.Refusals.{or_first, or_none}
use Rattle.steps.specs.Steps.{States, size, least, Outcome, unchanged}
use Rattle.floats.specs.Numbers.{nought}
use Rattle.duration.specs.Estimate.{naturals}
use Rattle.duration.specs.Fit.{at_shortest, fit_to, refusal_to}
use Rattle.lists.specs.Refusals.{or_else}
use Rattle.duration.specs.Align.{Group, given, tail, states_in, target_of, fit_of, refusal_to_end, refusal_of, refusal_along}
use Rattle.duration.specs.Promise.{clears}
use Rattle.duration.specs.Inner.Asked.{InPlace, closed, grown, Closes}
use Rattle.lists.specs.Refusals.{number_of}
use Rattle.lists.proofs.Answers.{refused_is, accepted_is}
use Rattle.lists.proofs.Ends.{refuses}
use Rattle.steps.proofs.Stepping.{settle-few}
use Rattle.duration.proofs.Refusals.{cond-none}
use Rattle.duration.proofs.Estimates.{length-estimates}
use Rattle.duration.proofs.Fairness.{fit-total}
use Rattle.duration.proofs.Fits.{no_list, fit-clears}

-- ---- closing a group with an end, whose fit left w in its place

module _ (ss : States) (from to : ℕ) (x : Float) (frames : ℕ) (work w work' : List ℕ) where
  abbrev g : Group
  g = given from to x

  abbrev own : ℕ
  own = refusal_to (states_in g ss) (target_of x frames)

  module _ (r : Result ℕ Refusal) (f : InPlace own (fit_of ss g frames) r w) where
    pub close_refused : (m : Refusal) → r ≡ Err m → Closes ss g frames work (grown ss g frames) (closed (Err m)) work'
    unfolding refusal_of
    close_refused m e =
        let s = refused_is (number_of m) own _ [] (ap counted (sym e) ∙ f.answer) in
        let o : refusal_of ss g frames ≡ own = or_first own _ s.1 in
        let z : refusal_of ss g frames ≡ 0 → ⊥ = λ q. s.1 (sym o ∙ q) in
        record { answer = refuses m (refusal_of ss g frames) (grown ss g frames) (sym (o ∙ s.0)); output = λ q. absurd (z q) }

    -- it comes to the larger of its target and the sum of its shortest
    module _ (c s : ℕ) (e : r ≡ Ok c) (some : 0 < size (states_in g ss)) (agree : length (states_in g ss).shortest ≡ size (states_in g ss)) (sum : s ≡ max (target_of x frames) (least (states_in g ss))) where
      done : (own ≡ 0) × ((counted (Ok c)).values ≡ (fit_of ss g frames).changes ∷ [])
      done = accepted_is (counted (Ok c)) own _ (ap counted (sym e) ∙ f.answer) refl

      sum_is : s ≡ total (fit_of ss g frames).durations
      sum_is = sum ∙ sym (fit-total (states_in g ss) (target_of x frames) some agree done.0)

      pub close_long : most_frames < frames + s → Closes ss g frames work (grown ss g frames) (closed (Err EstimateTooLong)) work'
      unfolding refusal_of
      close_long h =
          let l : most_frames < frames + total (fit_of ss g frames).durations = rw (← sum_is) h in
          let o : refusal_of ss g frames ≡ 8 = rw (done.0, lt-ltb most_frames (frames + total (fit_of ss g frames).durations) l) in
          record { answer = rw o; output = λ q. absurd (omega arith) }

      pub close_grown : frames + s ≤ most_frames → work' ≡ take from work ++ (w ++ drop to work) → Closes ss g frames work (grown ss g frames) (closed (Ok (record { changes = c; frames = s }))) work'
      unfolding refusal_of
      close_grown h p =
          let l : frames + total (fit_of ss g frames).durations ≤ most_frames = rw (← sum_is) h in
          let o : refusal_of ss g frames ≡ 0 = rw (done.0, le-ltb most_frames (frames + total (fit_of ss g frames).durations) l) in
          let v = done.1 in
          let n : c ≡ (fit_of ss g frames).changes = cc in
          record { answer = rw (o, n, sum_is); output = λ q. rw (← f.output done.0) p }

-- ---- closing the tail

-- its own total needs no test: where that is too large, so is the total of all groups
over-either : (m n : ℕ) → m ≤ n → or_else (cond (ltb most_frames m) 8 0) (cond (ltb most_frames n) 8 0) ≡ cond (ltb most_frames n) 8 0
over-either m n h = ⊎_elim
    (λ (k : m ≤ most_frames). rw (le-ltb most_frames m k))
    (λ (k : most_frames < m). rw (lt-ltb most_frames m k, lt-ltb most_frames n (omega arith)))
    (le_or_lt m most_frames)

module _ (ss : States) (from to frames changes : ℕ) (work : List ℕ) where
  abbrev naturals_of : List ℕ
  naturals_of = naturals (states_in (tail from to) ss)

  pub one_test : refusal_of ss (tail from to) frames ≡ cond (ltb most_frames (frames + total naturals_of)) 8 0
  unfolding refusal_of
  one_test = over-either (total naturals_of) (frames + total naturals_of) (omega arith)

  pub tail-long : (work' : List ℕ) → most_frames < frames + total naturals_of → Closes ss (tail from to) frames work (changes ∷ []) (counted (Err EstimateTooLong)) work'
  tail-long work' h =
      let o : refusal_of ss (tail from to) frames ≡ 8 = one_test ∙ rw (lt-ltb most_frames (frames + total naturals_of) h) in
      record { answer = rw o; output = λ q. absurd (omega arith) }

  module _ (few : frames + total naturals_of ≤ most_frames) where
    pub tail-fits : (w work' : List ℕ) → w ≡ naturals_of → work' ≡ take from work ++ (w ++ drop to work) → Closes ss (tail from to) frames work (changes ∷ []) (counted (Ok changes)) work'
    tail-fits w work' e p =
        let o : refusal_of ss (tail from to) frames ≡ 0 = one_test ∙ rw (le-ltb most_frames (frames + total naturals_of) few) in
        record { answer = rw o; output = λ q. rw (← e) p }

-- a tail of no state
pub tail_none : (ss : States) (from to frames changes : ℕ) (work : List ℕ) → from ≡ to → frames ≤ most_frames → Closes ss (tail from to) frames work (changes ∷ []) (counted (Ok changes)) work
unfolding naturals total
tail_none ss from to frames changes work e h =
    let z : to - from ≡ 0 = omega arith in
    let part : List Float = drop from ss.means in
    let none : size (states_in (tail from to) ss) ≡ 0 = length-take (to - from) part ∙ (let m : min (to - from) (length part) ≡ 0 = omega arith in m) in
    let n : naturals_of ss from to frames changes work ≡ [] = no_list _ (length-estimates nought (states_in (tail from to) ss) ∙ none) in
    tail-fits ss from to frames changes work (rw n (omega arith)) [] work (sym n) (rw (← e) (sym (take-append-drop from work)))

-- ---- a group that is not refused: its own tests, and the frames up to its end

pub accepted-group : (ss : States) (g : Group) (frames : ℕ) → refusal_of ss g frames ≡ 0 → (refusal_to_end (states_in g ss) frames g.end ≡ 0) × (frames + total (fit_of ss g frames).durations ≤ most_frames)
unfolding refusal_of
accepted-group ss g frames r =
    let p = or_none (refusal_to_end (states_in g ss) frames g.end) _ r in
    let n : ℕ = frames + total (fit_of ss g frames).durations in
    (p.0, ltb-false most_frames n (cond-none (ltb most_frames n) 7 0 p.1).0)

-- ---- how much a group adds

cond-few : (b : Bool) (p q : Outcome) (m : ℕ) → p.changes ≤ m → q.changes ≤ m → (cond b p q).changes ≤ m
cond-few true p q m h k = h
cond-few false p q m h k = k

pub fit-few : (ss : States) (t : ℕ) → (fit_to ss t).changes ≤ most_frames
unfolding fit_to
fit-few ss t = cond-few (at_shortest ss t) (unchanged _) _ most_frames zero-le (settle-few _ ss t most_frames _)

-- ---- a group's refusals, and a run's, clear the work space

late_or : (k : ℕ) (b : Bool) → clears k ≡ true → clears (or_else k (cond b 8 0)) ≡ true
late_or zero true e = refl
late_or zero false e = refl
late_or (suc k) b e = e

end-clears : (ss : States) (frames : ℕ) (end : End) → clears (refusal_to_end ss frames end) ≡ true
end-clears ss frames (At x) = fit-clears ss _
end-clears ss frames Open = late_or 0 (ltb most_frames (total (naturals ss))) refl

late-then : (k l : ℕ) → clears k ≡ true → clears l ≡ true → clears (or_else k l) ≡ true
late-then zero l p q = q
late-then (suc k) l p q = p

pub along-clears : (ss : States) (gs : List Group) (frames : ℕ) → clears (refusal_along ss gs frames) ≡ true
unfolding refusal_along refusal_of
along-clears ss [] frames = refl
along-clears ss (g ∷ gs) frames =
    late-then (refusal_of ss g frames) (refusal_along ss gs (frames + total (fit_of ss g frames).durations))
    (late_or (refusal_to_end (states_in g ss) frames g.end) (ltb most_frames (frames + total (fit_of ss g frames).durations)) (end-clears (states_in g ss) frames g.end))
    (along-clears ss gs (frames + total (fit_of ss g frames).durations))
