-- `frames_of` says 65,537 for all that is above 65,536. That shows nowhere: each call promises the same with counts of frames that have no cap.
use mathlib.Core.Path.{◌≡◌, refl, sym, ap, ◌∙◌, subst}
use mathlib.Core.Bool.{Bool, true, false, cond, ◌||◌}
use mathlib.Core.Logic.{⊎_elim, ◌↔◌}
use mathlib.Core.List.{List, [], ◌∷◌, ◌++◌}
use Prim.Native.Nat.{ℕ, zero, suc, ◌+◌, ◌≤◌, ◌<◌, min, max}
use native.Mathlib.Omega.{arith}
use lib.Dec.{ltb, leb, eqb}
use lib.IntN.{pos, negsuc}
use lib.Ieee.{Float, binary64, div, eq}
use borrow.Author.Tests.{lt-ltb, le-ltb, ltb-false}
use Rattle.lists.specs.Ends.{counted as told}
use Rattle.lists.specs.declared.Refusal.{Refusal}
use Rattle.std.proofs.Common.{Result}
use Rattle.duration.specs.declared.align.End.{End}
use Rattle.duration.specs.declared.align.End.TheVariants.{At, Open}
use Rattle.lists.specs.Sizes.{most_frames}
use Rattle.lists.specs.Build.{build}
use Rattle.lists.specs.Totals.{total}
use Rattle.lists.specs.Refusals.{or_else}
use Rattle.lists.specs.Answers.{Answer}
use Rattle.lists.proofs.Numbers.{le_or_lt}
use Rattle.lists.proofs.Refusals.{or_none}
use Rattle.floats.specs.Rounding.{Integral, undefined, endless, whole, to_integral, frames_of, rounded_of}
use Rattle.floats.specs.Numbers.{nought, one, number}
use Rattle.duration.specs.declared.Aligned.{Aligned}
use Rattle.duration.specs.Estimate.{estimates, naturals}
use Rattle.steps.specs.Steps.{States, size, state_at, least, Outcome, unchanged, settle}
use Rattle.duration.specs.Fit.{rho_for, start_of, fit_to, refusal_to}
use Rattle.duration.specs.Speed.{target_at, fit_at, refusal_at}
use Rattle.duration.specs.Align.{Group, groups, states_in, target_of, fit_to_end, fit_of, fit_along, refusal_to_end, refusal_of, refusal_along}
use Rattle.duration.specs.Promise.{aligned, early_refusal, early_of_labels, Says, FitSays, SpeedSays, AlignSays}
use Rattle.duration.proofs.Roundings.{estimates_by, start_by, fit_to_by, refusal_to_by, naturals_by, target_at_by, fit_at_by, refusal_at_by, target_of_by, fit_to_end_by, fit_of_by, fit_along_by, refusal_to_end_by, refusal_of_by, refusal_along_by, FitSaysBy, SpeedSaysBy, AlignSaysBy}

-- ---- a number and its cap

-- the same number, or both above 65,536
abbrev Caps : ℕ → ℕ → Type 0
Caps s t = min 65537 s ≡ min 65537 t

caps_same : (s t : ℕ) → Caps s t → t ≤ most_frames → s ≡ t
caps_same s t c h = omega arith

caps_over : (s t : ℕ) → Caps s t → most_frames < t → most_frames < s
caps_over s t c h = omega arith

caps_max : (l s t : ℕ) → Caps s t → Caps (max l s) (max l t)
caps_max l s t c = omega arith

data Capped : List ℕ → List ℕ → Type 0 where
  nil : Capped [] []
  cons : {s t : ℕ} {ss ts : List ℕ} → Caps s t → Capped ss ts → Capped (s ∷ ss) (t ∷ ts)

capped_back : {ss ts : List ℕ} → Capped ss ts → Capped ts ss
capped_back nil = nil
capped_back (cons c p) = cons (sym c) (capped_back p)

capped_same : {ss ts : List ℕ} → Capped ss ts → total ts ≤ most_frames → ss ≡ ts
unfolding total
capped_same nil h = refl
capped_same (cons {s = s} {t = t} c p) h =
    let e : s ≡ t = caps_same s t c (omega arith) in
    let f = capped_same p (omega arith) in
    cc

capped_over : {ss ts : List ℕ} → Capped ss ts → ltb most_frames (total ss) ≡ ltb most_frames (total ts)
capped_over {ss} {ts} p = ⊎_elim
    (λ (h : total ts ≤ most_frames). ap (λ (l : List ℕ). ltb most_frames (total l)) (capped_same p h))
    (λ (h : most_frames < total ts). ⊎_elim
    (λ (g : total ss ≤ most_frames). ap (λ (l : List ℕ). ltb most_frames (total l)) (sym (capped_same (capped_back p) g)))
    (λ (g : most_frames < total ss). lt-ltb most_frames (total ss) g ∙ sym (lt-ltb most_frames (total ts) h))
    (le_or_lt (total ss) most_frames))
    (le_or_lt (total ts) most_frames)

capped_more : (s t : ℕ) → Caps s t → {xs ys : List ℕ} → Capped xs ys → Capped (xs ++ (s ∷ [])) (ys ++ (t ∷ []))
capped_more s t c nil = cons c nil
capped_more s t c (cons d p) = cons d (capped_more s t c p)

capped_build : (f g : ℕ → ℕ) (n : ℕ) → ((i : ℕ) → Caps (f i) (g i)) → Capped (build f n) (build g n)
unfolding build
capped_build f g zero h = nil
capped_build f g (suc n) h = capped_more (f n) (g n) (h n) (capped_build f g n h)

-- ---- two ways to the same answer

-- of two refusals and outcomes: the refusals are the same number, and where it is 0 the outcomes are the same
pub record Alike (j k : ℕ) (o p : Outcome) : Type 0 where
  pub refusal : j ≡ k
  pub outcome : k ≡ 0 → o ≡ p

back : {j k : ℕ} {o p : Outcome} → Alike j k o p → Alike k j p o
back a = record { refusal = sym a.refusal; outcome = λ e. sym (a.outcome (sym a.refusal ∙ e)) }

module _ (values : Outcome → List ℕ) (n : ℕ) (out work : List ℕ) (a : Answer) (out' work' : List ℕ) where
  -- a promise whose tests of the lists give b
  abbrev Said : ℕ → ℕ → Outcome → Type 0
  Said b k o = Says (or_else b k) (values o) o.durations n out work a out' work'

  said_same : (b k : ℕ) (o p : Outcome) → (k ≡ 0 → o ≡ p) → Said b k o → Said b k p
  said_same (suc b) k o p e f = record { answer = f.answer; output = f.output; workspace = f.workspace }
  said_same zero zero o p e f = subst (Said 0 0) (e refl) f
  said_same zero (suc k) o p e f = record { answer = f.answer; output = f.output; workspace = f.workspace }

  said-alike : (b : ℕ) {j k : ℕ} {o p : Outcome} → Alike j k o p → Said b j o → Said b k p
  said-alike b {j} {k} {o} {p} l f = said_same b k o p l.outcome (subst (λ (m : ℕ). Said b m o) l.refusal f)

  said-both : (b : ℕ) {j k : ℕ} {o p : Outcome} → Alike j k o p → Said b k p ↔ Said b j o
  said-both b l = (said-alike b (back l), said-alike b l)

-- ---- with a rounding whose cap is `rounded_of`

-- a fit that is accepted has no state, a target not above the count, or a start that is not too long
tests_same : (a b c d : Bool) (l o p : Outcome) → ◌≡◌ {A = ℕ} (cond a 0 (cond b 7 (cond c 0 (cond d 8 0)))) 0 → (d ≡ false → o ≡ p) → cond (a || c) l o ≡ cond (a || c) l p
tests_same true b c d l o p e f = refl
tests_same false true c d l o p e f = absurd (omega arith)
tests_same false false true d l o p e f = refl
tests_same false false false true l o p e f = absurd (omega arith)
tests_same false false false false l o p e f = f refl

-- with a target that is too large a fit is accepted where there is no state
tests-over : (a c d : Bool) (l o p : Outcome) → ◌≡◌ {A = ℕ} (cond a 0 7) 0 → cond (a || c) l o ≡ cond (a || d) l p
tests-over true c d l o p e = refl
tests-over false c d l o p e = absurd (omega arith)

or_same : (j k : ℕ) (x y : ℕ) → j ≡ k → (k ≡ 0 → x ≡ y) → or_else j x ≡ or_else k y
or_same j zero x y e f = rw e (f refl)
or_same j (suc k) x y e f = rw e

module _ (rounding : Float → ℕ) (caps : (x : Float) → Caps (rounding x) (rounded_of x)) where
  estimates_capped : (rho : Float) (ss : States) → Capped (estimates_by rounding rho ss) (estimates rho ss)
  unfolding estimates estimates_by
  estimates_capped rho ss = capped_build _ _ (size ss) (λ i. caps_max (state_at ss i).shortest _ _ (caps _))

  start_capped : (ss : States) (t : ℕ) → Capped (start_by rounding ss t) (start_of ss t)
  unfolding start_by start_of
  start_capped ss t = estimates_capped (rho_for ss t) ss

  module _ (ss : States) where
    same_target : (t : ℕ) → Alike (refusal_to_by rounding ss t) (refusal_to ss t) (fit_to_by rounding ss t) (fit_to ss t)
    unfolding refusal_to_by refusal_to fit_to_by fit_to
    same_target t =
        let p = start_capped ss t in
        record {
          refusal = rw (capped_over p);
          outcome = λ e. tests_same (eqb (size ss) 0) (ltb most_frames t) (leb t (least ss)) (ltb most_frames (total (start_of ss t))) (unchanged ss.shortest) _ _ e
              (λ h. ap (settle most_frames (rho_for ss t) ss t) (capped_same p (ltb-false most_frames (total (start_of ss t)) h)));
        }

    -- of any target and its cap
    fit-alike : (s t : ℕ) → Caps s t → Alike (refusal_to_by rounding ss s) (refusal_to ss t) (fit_to_by rounding ss s) (fit_to ss t)
    unfolding refusal_to_by refusal_to fit_to_by fit_to
    fit-alike s t c = ⊎_elim
        (λ (h : t ≤ most_frames). subst (λ (x : ℕ). Alike (refusal_to_by rounding ss x) (refusal_to ss t) (fit_to_by rounding ss x) (fit_to ss t)) (sym (caps_same s t c h)) (same_target t))
        (λ (h : most_frames < t).
        let a : ltb most_frames t ≡ true = lt-ltb most_frames t h in
        let b : ltb most_frames s ≡ true = lt-ltb most_frames s (caps_over s t c h) in
        record {
          refusal = rw (a, b);
          outcome = λ e. tests-over (eqb (size ss) 0) (leb s (least ss)) (leb t (least ss)) (unchanged ss.shortest) _ _ (rw a at e);
        })
        (le_or_lt t most_frames)

    -- at a speed
    speed-alike : (speed : Float) → Alike (refusal_at_by rounding ss speed) (refusal_at ss speed) (fit_at_by rounding ss speed) (fit_at ss speed)
    unfolding refusal_at_by refusal_at fit_at_by fit_at target_at_by target_at naturals_by naturals
    speed-alike speed =
        let p = estimates_capped nought ss in
        let N : List ℕ = naturals ss in
        ⊎_elim
        (λ (h : total N ≤ most_frames).
        let f = fit-alike (rounding (div binary64 (number (total N)) speed)) (target_at ss speed) (caps _) in
        rw (capped_same p h, le-ltb most_frames (total N) h)
        ((elim (eq speed one) as (λ s. Alike (cond s 0 (refusal_to_by rounding ss (rounding (div binary64 (number (total N)) speed)))) (cond s 0 (refusal_to ss (target_at ss speed))) (cond s (unchanged N) (fit_to_by rounding ss (rounding (div binary64 (number (total N)) speed)))) (cond s (unchanged N) (fit_to ss (target_at ss speed)))) [
          | true ↦ record { refusal = refl; outcome = λ e. refl }
          | false ↦ f
        ])))
        (λ (h : most_frames < total N).
        let a : ltb most_frames (total N) ≡ true = lt-ltb most_frames (total N) h in
        let b : ltb most_frames (total (naturals_by rounding ss)) ≡ true = capped_over p ∙ a in
        record { refusal = rw (a, b); outcome = λ e. absurd (let z : ◌≡◌ {A = ℕ} 8 0 = rw a at e in omega arith) })
        (le_or_lt (total N) most_frames)

  -- of states by their end
  module _ (ss : States) (frames : ℕ) where
    abbrev over : Outcome → ℕ
    over o = cond (ltb most_frames (frames + total o.durations)) 8 0

    abbrev own : List ℕ → ℕ
    own ds = cond (ltb most_frames (total ds)) 8 0

    tail-alike : let n = naturals_by rounding ss in let m = naturals ss in Alike (or_else (own n) (over (unchanged n))) (or_else (own m) (over (unchanged m))) (unchanged n) (unchanged m)
    unfolding naturals_by naturals
    tail-alike =
        let p = estimates_capped nought ss in
        let N : List ℕ = estimates nought ss in
        ⊎_elim
        (λ (h : total N ≤ most_frames). let e = capped_same p h in record { refusal = rw e; outcome = λ z. rw e })
        (λ (h : most_frames < total N).
        let a : ltb most_frames (total N) ≡ true = lt-ltb most_frames (total N) h in
        let b : ltb most_frames (total (estimates_by rounding nought ss)) ≡ true = capped_over p ∙ a in
        record { refusal = rw (a, b); outcome = λ e. absurd (let z : ◌≡◌ {A = ℕ} 8 0 = rw a at e in omega arith) })
        (le_or_lt (total N) most_frames)

    end-alike : (end : End) → Alike (or_else (refusal_to_end_by rounding ss frames end) (over (fit_to_end_by rounding ss frames end))) (or_else (refusal_to_end ss frames end) (over (fit_to_end ss frames end))) (fit_to_end_by rounding ss frames end) (fit_to_end ss frames end)
    end-alike (At x) =
        let f = fit-alike ss (target_of_by rounding x frames) (target_of x frames) (caps _) in
        record {
          refusal = or_same (refusal_to_by rounding ss (target_of_by rounding x frames)) (refusal_to ss (target_of x frames)) _ _ f.refusal (λ e. ap over (f.outcome e));
          outcome = λ e. f.outcome (or_none (refusal_to ss (target_of x frames)) _ e).0;
        }
    end-alike Open = tail-alike

  -- of a group, and of an alignment
  module _ (ss : States) where
    group-alike : (g : Group) (frames : ℕ) → Alike (refusal_of_by rounding ss g frames) (refusal_of ss g frames) (fit_of_by rounding ss g frames) (fit_of ss g frames)
    unfolding refusal_of_by refusal_of
    group-alike g frames = end-alike (states_in g ss) frames g.end

    along-alike : (gs : List Group) (frames : ℕ) → Alike (refusal_along_by rounding ss gs frames) (refusal_along ss gs frames) (fit_along_by rounding ss gs frames) (fit_along ss gs frames)
    unfolding refusal_along_by refusal_along fit_along_by fit_along
    along-alike [] frames = record { refusal = refl; outcome = λ e. refl }
    along-alike (g ∷ gs) frames =
        let f = group-alike g frames in
        let later = along-alike gs (frames + total (fit_of ss g frames).durations) in
        record {
          refusal = or_same (refusal_of_by rounding ss g frames) (refusal_of ss g frames) _ _ f.refusal (λ e. ap (λ (o : Outcome). refusal_along_by rounding ss gs (frames + total o.durations)) (f.outcome e) ∙ later.refusal);
          outcome = λ e. (let z = or_none (refusal_of ss g frames) _ e in rw (f.outcome z.0, later.outcome z.1));
        }

-- ---- the count of frames with no cap

-- rounded, at least 1; NaN gives 1, minus infinity too, and plus infinity `big`
abbrev pub uncapped : ℕ → Integral → ℕ
uncapped big undefined = 1
uncapped big (endless s) = cond s 1 big
uncapped big (whole (pos n)) = max 1 n
uncapped big (whole (negsuc n)) = 1

-- `frames_of` caps it
pub uncapped_caps : (big : ℕ) → most_frames < big → (i : Integral) → min 65537 (uncapped big i) ≡ frames_of i
unfolding frames_of
uncapped_caps big h undefined = refl
uncapped_caps big h (endless true) = refl
uncapped_caps big h (endless false) = omega arith
uncapped_caps big h (whole (pos n)) = omega arith
uncapped_caps big h (whole (negsuc n)) = refl

unfoldable pub counted : ℕ → Float → ℕ
counted big x = uncapped big (to_integral x)

-- Whatever number above 65,536 stands for plus infinity: the promise with the cap and the one without it hold of the same outcomes.
module _ (big : ℕ) (above : most_frames < big) where
  counted_caps : (x : Float) → Caps (counted big x) (rounded_of x)
  unfolding counted rounded_of
  counted_caps x = let c : min 65537 (uncapped big (to_integral x)) ≡ frames_of (to_integral x) = uncapped_caps big above (to_integral x) in omega arith

  -- what is not too large is the same number
  pub target-uncapped : (x : Float) → rounded_of x ≤ most_frames → counted big x ≡ rounded_of x
  target-uncapped x h = caps_same (counted big x) (rounded_of x) (counted_caps x) h

  pub start-uncapped : (ss : States) (t : ℕ) → total (start_of ss t) ≤ most_frames → start_by (counted big) ss t ≡ start_of ss t
  start-uncapped ss t h = capped_same (start_capped (counted big) counted_caps ss t) h

  module _ (ss : States) (x : Float) (out work : List ℕ) (r : Result ℕ Refusal) (out' work' : List ℕ) where
    abbrev Told : ℕ → Outcome → Type 0
    Told = Said (λ o. o.changes ∷ []) (size ss) out work (told r) out' work' (early_refusal ss out work)

    told-both : {j k : ℕ} {o p : Outcome} → Alike j k o p → Told k p ↔ Told j o
    told-both = said-both (λ o. o.changes ∷ []) (size ss) out work (told r) out' work' (early_refusal ss out work)

    pub fit-uncapped : FitSays ss x out work r out' work' ↔ FitSaysBy (counted big) ss x out work r out' work'
    fit-uncapped = told-both (fit-alike (counted big) counted_caps ss (counted big x) (rounded_of x) (counted_caps x))

    pub speed-uncapped : SpeedSays ss x out work r out' work' ↔ SpeedSaysBy (counted big) ss x out work r out' work'
    speed-uncapped = told-both (speed-alike (counted big) counted_caps ss x)

  pub align_uncapped : (ss : States) (nstate : ℕ) (ends : List Float) (out work : List ℕ) (r : Result Aligned Refusal) (out' work' : List ℕ) → AlignSays ss nstate ends out work r out' work' ↔ AlignSaysBy (counted big) ss nstate ends out work r out' work'
  align_uncapped ss nstate ends out work r out' work' =
      said-both (λ o. size ss ∷ o.changes ∷ []) (size ss) out work (aligned r) out' work' (early_of_labels nstate ends ss out work)
      (along-alike (counted big) counted_caps ss (groups nstate 0 0 ends) 0)
