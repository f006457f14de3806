-- The ways through a fit in place, and through one at a speed.
use mathlib.Core.Path.{◌≡◌, refl, sym, ◌∙◌}
use mathlib.Core.Bool.{Bool, true, false, cond}
use mathlib.Core.List.{List, [], ◌∷◌}
use Prim.Native.Nat.{ℕ, ◌≤◌, ◌<◌}
use native.Mathlib.Omega.{arith}
use lib.Dec.{ltb, leb, eqb}
use lib.ListN.{length}
use lib.Ieee.{Float, eq}
use borrow.Author.Tests.{lt-ltb, le-ltb, le-leb, lt-leb, eq-eqb, ne_eqb}
use Rattle.lists.specs.declared.Refusal.TheVariants.{EstimateTooLong, TargetTooLong}
use Rattle.lists.specs.declared.Refusal.{Refusal}
use Rattle.std.proofs.Common.{ok_or, Option, Some, None, Result, Ok, Err}
use Rattle.lists.specs.Sizes.{most_states, most_frames}
use Rattle.lists.specs.Totals.{total}
use Rattle.lists.specs.Refusals.{number_of}
use Rattle.lists.proofs.Ends.{some_number, refuses}
use Rattle.floats.specs.Numbers.{one}
use Rattle.duration.specs.Estimate.{estimates, naturals}
use Rattle.steps.specs.Steps.{States, size, least, Outcome, settle}
use Rattle.steps.specs.Promise.{opens, SettleSays}
use Rattle.steps.proofs.Door.{stands_open, was-over, was_settled}
use Rattle.duration.specs.Fit.{rho_for, start_of, fit_to, refusal_to}
use Rattle.duration.specs.Speed.{target_at, fit_at, refusal_at}
use Rattle.duration.specs.Promise.{clears}
use Rattle.duration.specs.Inner.Asked.{Agree, InPlace}

pub no_list : (xs : List ℕ) → length xs ≡ 0 → xs ≡ []
no_list [] e = refl
no_list (x ∷ xs) e = absurd (omega arith)

pub fit_none : (ss : States) (t : ℕ) (work : List ℕ) → Agree ss work → size ss ≡ 0 → InPlace (refusal_to ss t) (fit_to ss t) (Ok 0) work
unfolding refusal_to fit_to
fit_none ss t work g z =
    let e : eqb (size ss) 0 ≡ true = eq-eqb (size ss) 0 z in
    record { answer = rw e; output = λ q. rw e (no_list work (g.workspace ∙ z) ∙ sym (no_list ss.shortest (g.shortest ∙ z))) }

in_refused : (d : Refusal) (m : ℕ) (o : Outcome) (work : List ℕ) → m ≡ number_of d → InPlace m o (Err d) work
in_refused d m o work e = record { answer = refuses d m (o.changes ∷ []) (sym e); output = λ q. absurd (let h = some_number d in omega arith) }

module _ (ss : States) (t : ℕ) (some : 0 < size ss) where
  states : eqb (size ss) 0 ≡ false
  states = ne_eqb (size ss) 0 (λ q. omega arith)

  pub fit-over : (work : List ℕ) → most_frames < t → InPlace (refusal_to ss t) (fit_to ss t) (Err TargetTooLong) work
  unfolding refusal_to
  fit-over work h = in_refused TargetTooLong (refusal_to ss t) (fit_to ss t) work (rw (states, lt-ltb most_frames t h))

  module _ (within : t ≤ most_frames) where
    pub fit-shortest : (work : List ℕ) → t ≤ least ss → work ≡ ss.shortest → InPlace (refusal_to ss t) (fit_to ss t) (Ok 0) work
    unfolding refusal_to fit_to
    fit-shortest work h e =
        let b : leb t (least ss) ≡ true = le-leb t (least ss) h in
        record { answer = rw (states, le-ltb most_frames t within, b); output = λ q. rw (states, b) e }

    -- from the start, the estimate with rho, the step rule answers r and leaves `work`
    module _ (above : least ss < t) (rho : Float) (start work : List ℕ) (r : Option ℕ) (few : size ss ≤ most_states) (agree : length ss.varis ≡ size ss) (also : length ss.shortest ≡ size ss) (long : length start ≡ size ss)
        (p : rho ≡ rho_for ss t) (q : start ≡ estimates rho ss) (s : SettleSays rho t ss start r work) where
      start_is : start ≡ start_of ss t
      unfolding start_of
      start_is = q ∙ rw p

      -- its door stands open
      pub fit-opens : opens ss start t ≡ true
      fit-opens = stands_open ss start t (record { some = some; few = few; varis = agree; shortest = also; work = long }) above within

      pub fit-long : r ≡ None → InPlace (refusal_to ss t) (fit_to ss t) (Err EstimateTooLong) work
      unfolding refusal_to
      fit-long e =
          let h : most_frames < total (start_of ss t) = rw (← start_is) (was-over rho t ss start fit-opens r work s e) in
          in_refused EstimateTooLong (refusal_to ss t) (fit_to ss t) work (rw (states, le-ltb most_frames t within, lt-leb t (least ss) above, lt-ltb most_frames (total (start_of ss t)) h))

      pub fit-settled : (c : ℕ) → r ≡ Some c → InPlace (refusal_to ss t) (fit_to ss t) (Ok c) work
      unfolding refusal_to fit_to
      fit-settled c e =
          let o = was_settled rho t ss start fit-opens r work s c e in
          let h : total (start_of ss t) ≤ most_frames = rw (← start_is) o.0 in
          let g : settle most_frames (rho_for ss t) ss t (start_of ss t) ≡ record { durations = work; changes = c } = rw (← p, ← start_is) o.1 in
          let b : leb t (least ss) ≡ false = lt-leb t (least ss) above in
          record { answer = rw (states, le-ltb most_frames t within, b, le-ltb most_frames (total (start_of ss t)) h, g); output = λ q. rw (states, b, g) }

      pub fit-ends : (x : Result ℕ Refusal) → x ≡ ok_or r EstimateTooLong → InPlace (refusal_to ss t) (fit_to ss t) x work
      fit-ends x q =
          (elim r as (λ o. r ≡ o → x ≡ ok_or o EstimateTooLong → InPlace (refusal_to ss t) (fit_to ss t) x work) [
            | None ↦ λ e f. rw f (fit-long e)
            | Some c ↦ λ e f. rw f (fit-settled c e)
          ])
          refl q

-- ---- a fit's refusals, and none, clear the work space

late : (a b c d : Bool) → clears (cond a 0 (cond b 7 (cond c 0 (cond d 8 0)))) ≡ true
late true b c d = refl
late false true c d = refl
late false false true d = refl
late false false false true = refl
late false false false false = refl

pub fit-clears : (ss : States) (t : ℕ) → clears (refusal_to ss t) ≡ true
unfolding refusal_to
fit-clears ss t = late (eqb (size ss) 0) (ltb most_frames t) (leb t (least ss)) (ltb most_frames (total (start_of ss t)))

-- ---- at a speed

module _ (ss : States) (speed : Float) (work : List ℕ) where
  pub speed-long : most_frames < total (naturals ss) → InPlace (refusal_at ss speed) (fit_at ss speed) (Err EstimateTooLong) work
  unfolding refusal_at
  speed-long h = in_refused EstimateTooLong (refusal_at ss speed) (fit_at ss speed) work (rw (lt-ltb most_frames (total (naturals ss)) h))

  module _ (h : total (naturals ss) ≤ most_frames) where
    pub speed-one : eq speed one ≡ true → work ≡ naturals ss → InPlace (refusal_at ss speed) (fit_at ss speed) (Ok 0) work
    unfolding refusal_at fit_at
    speed-one e w = record { answer = rw (le-ltb most_frames (total (naturals ss)) h, e); output = λ q. rw e w }

    pub speed-other : (t : ℕ) (r : Result ℕ Refusal) → eq speed one ≡ false → t ≡ target_at ss speed → InPlace (refusal_to ss t) (fit_to ss t) r work → InPlace (refusal_at ss speed) (fit_at ss speed) r work
    unfolding refusal_at fit_at
    speed-other t r e q f = rw (le-ltb most_frames (total (naturals ss)) h, e, ← q) f

late-speed : (a b : Bool) (k : ℕ) → clears k ≡ true → clears (cond a 8 (cond b 0 k)) ≡ true
late-speed true b k e = refl
late-speed false true k e = refl
late-speed false false k e = e

pub speed-clears : (ss : States) (speed : Float) → clears (refusal_at ss speed) ≡ true
unfolding refusal_at
speed-clears ss speed = late-speed (ltb most_frames (total (naturals ss))) (eq speed one) (refusal_to ss (target_at ss speed)) (fit-clears ss (target_at ss speed))
