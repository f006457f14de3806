-- With all shortest durations 1 each call promises what it did without any.
use mathlib.Core.Path.{◌≡◌, refl, sym, ap, ◌∙◌}
use mathlib.Core.Bool.{Bool, true, false}
use mathlib.Core.Logic.{◌↔◌}
use mathlib.Core.List.{List, [], ◌∷◌}
use Prim.Native.Nat.{ℕ, zero, suc, ◌+◌, ◌-◌, ◌*◌, ◌≤◌, ◌<◌, max}
use native.Mathlib.Nat.{suc-mul, mul-le-mul_right}
use native.Mathlib.Omega.{arith}
use lib.Dec.{ltb, eqb}
use lib.IntN.{pos, negsuc}
use lib.ListN.{length, get_or, set, take, drop, replicate, length-set, length-take, length-drop, length-replicate, get_or-replicate}
use lib.Ieee.{Float, binary64, add, mul}
use borrow.Author.Tests.{eq-eqb}
use Rattle.lists.specs.Ends.{counted}
use Rattle.lists.specs.declared.Refusal.{Refusal}
use Rattle.std.proofs.Common.{Result}
use Rattle.duration.specs.declared.align.End.{End}
use Rattle.duration.specs.declared.align.End.TheVariants.{At, Open}
use Rattle.lists.specs.Sizes.{most_frames}
use Rattle.lists.specs.Build.{build}
use Rattle.lists.specs.Totals.{total}
use Rattle.lists.specs.Refusals.{or_else}
use Rattle.lists.specs.Answers.{Answer}
use Rattle.lists.proofs.Builds.{build-first}
use Rattle.lists.proofs.Refusals.{or_none}
use Rattle.lists.proofs.Sums.{total-same, total-part}
use Rattle.floats.specs.Rounding.{Integral, undefined, endless, whole, frames_of, to_integral, rounded_of}
use Rattle.floats.specs.Numbers.{nought}
use Rattle.steps.specs.Steps.{States, state, states, least, Key, moved, key_of, keys, least_of, step, Outcome, unchanged, once_more, settle}
use Rattle.duration.specs.declared.Aligned.{Aligned}
use Rattle.duration.specs.Shortest.{refusal_of_shortest}
use Rattle.duration.specs.Estimate.{estimates, naturals}
use Rattle.duration.specs.Fit.{rho_of, start_of, fit_to, refusal_to}
use Rattle.duration.specs.Speed.{target_at, fit_at, refusal_at}
use Rattle.duration.specs.Align.{Group, groups, states_in, within, target_of, fit_to_end, fit_along, refusal_to_end, refusal_of, refusal_along}
use Rattle.duration.specs.Drift.{closed_before, group_states, group_least, NoDrift}
use Rattle.duration.specs.Promise.{aligned, refusal_of_lists, refusal_of_labels, early_refusal, early_of_labels, Says, FitSays, SpeedSays, AlignSays, AlignOnTime}
use Rattle.duration.specs.Ones as before
use Rattle.duration.proofs.Shortest.{taken-fit}
use Rattle.duration.proofs.Estimates.{length-estimates}
use Rattle.duration.proofs.Refusals.{Fitting, fitting, Labels, labelled}
use Rattle.duration.proofs.Groups.{closed-most}

-- a one for each of a list
abbrev ones_of : {A : Type 0} → List A → List ℕ
ones_of xs = replicate (length xs) 1

-- states whose shortest durations are ones
abbrev plain : List Float → List Float → States
plain ms vs = states ms vs (ones_of ms)

-- ---- a step

-- a rounded number is at least 1
frames-positive : (i : Integral) → 1 ≤ frames_of i
unfolding frames_of
frames-positive undefined = omega arith
frames-positive (endless true) = omega arith
frames-positive (endless false) = omega arith
frames-positive (whole (pos n)) = omega arith
frames-positive (whole (negsuc n)) = omega arith

rounded-positive : (x : Float) → 1 ≤ rounded_of x
unfolding rounded_of
rounded-positive x = frames-positive (to_integral x)

estimates-ones : (rho : Float) (ms vs : List Float) → length vs ≡ length ms → estimates rho (plain ms vs) ≡ before.estimates rho ms vs
unfolding estimates before.estimates build
estimates-ones rho [] vs e = refl
estimates-ones rho (m ∷ ms) [] e = absurd (omega arith)
estimates-ones rho (m ∷ ms) (v ∷ vs) e =
    let x : ℕ = rounded_of (add binary64 m (mul binary64 rho v)) in
    let h : max 1 x ≡ x = omega (arith, rounded-positive (add binary64 m (mul binary64 rho v))) in
    build-first _ (length ms) ∙ ap (λ (l : List ℕ). max 1 x ∷ l) (estimates-ones rho ms vs (omega arith)) ∙ ap (λ (n : ℕ). n ∷ before.estimates rho ms vs) h

key_ones : (up : Bool) (rho m v : Float) (d : ℕ) → key_of up rho (state m v 1) d ≡ before.key_of up rho m v d
unfolding key_of before.key_of
key_ones true rho m v d = refl
key_ones false rho m v d = refl

keys-ones : (up : Bool) (rho : Float) (ms vs : List Float) (ds : List ℕ) → length vs ≡ length ms → length ds ≡ length ms → keys up rho (plain ms vs) ds ≡ before.keys up rho ms vs ds
unfolding keys before.keys build
keys-ones up rho [] vs ds e l = refl
keys-ones up rho (m ∷ ms) [] ds e l = absurd (omega arith)
keys-ones up rho (m ∷ ms) (v ∷ vs) [] e l = absurd (omega arith)
keys-ones up rho (m ∷ ms) (v ∷ vs) (d ∷ ds) e l =
    build-first _ (length ms) ∙ ap (λ (ks : List Key). key_of up rho (state m v 1) d ∷ ks) (keys-ones up rho ms vs ds (omega arith) (omega arith)) ∙ ap (λ (k : Key). k ∷ before.keys up rho ms vs ds) (key_ones up rho m v d)

-- ---- lists that agree

-- ones of a part of a list
drop-ones : {A : Type 0} (a : ℕ) (xs : List A) → drop a (ones_of xs) ≡ ones_of (drop a xs)
drop-ones zero xs = refl
drop-ones (suc a) [] = refl
drop-ones (suc a) (x ∷ xs) = drop-ones a xs

take-ones : {A : Type 0} (k : ℕ) (xs : List A) → take k (ones_of xs) ≡ ones_of (take k xs)
take-ones zero xs = refl
take-ones (suc k) [] = refl
take-ones (suc k) (x ∷ xs) = ap (λ (l : List ℕ). 1 ∷ l) (take-ones k xs)

module _ (ms vs : List Float) (agree : length vs ≡ length ms) where
  step-ones : (up : Bool) (rho : Float) (ds : List ℕ) → length ds ≡ length ms → step up rho (plain ms vs) ds ≡ before.step up rho ms vs ds
  unfolding step before.step
  step-ones up rho ds l = ap (λ (ks : List Key). set ds (least_of ks) (moved up (get_or ds (least_of ks) 0))) (keys-ones up rho ms vs ds agree l)

  length-step : (up : Bool) (rho : Float) (ds : List ℕ) → length (before.step up rho ms vs ds) ≡ length ds
  unfolding before.step
  length-step up rho ds = simp length-set

  settle-ones : (most : ℕ) (rho : Float) (t : ℕ) (ds : List ℕ) → length ds ≡ length ms → settle most rho (plain ms vs) t ds ≡ before.settle most rho ms vs t ds
  unfolding settle before.settle
  settle-ones zero rho t ds l = refl
  settle-ones (suc most) rho t ds l =
      let up : Bool = ltb (total ds) t in
      ap (λ (o : Outcome). elim (eqb (total ds) t) [ true ↦ unchanged ds | false ↦ once_more o ])
      (ap (settle most rho (plain ms vs) t) (step-ones up rho ds l) ∙ settle-ones most rho t (before.step up rho ms vs ds) (length-step up rho ds ∙ l))

  least-ones : least (plain ms vs) ≡ length ms
  least-ones = omega (arith, total-same (length ms) 1)

  start-ones : (t : ℕ) → start_of (plain ms vs) t ≡ before.start_of ms vs t
  unfolding start_of before.start_of
  start-ones t = estimates-ones (rho_of ms vs t) ms vs agree

  start-length : (t : ℕ) → length (before.start_of ms vs t) ≡ length ms
  unfolding start_of
  start-length t = ap length (sym (start-ones t)) ∙ length-estimates (rho_of ms vs t) (plain ms vs)

  natural-ones : naturals (plain ms vs) ≡ before.naturals ms vs
  unfolding naturals before.naturals
  natural-ones = estimates-ones nought ms vs agree

  -- a fit
  fit_same : (t : ℕ) → (refusal_to (plain ms vs) t ≡ before.refusal_to ms vs t) × (fit_to (plain ms vs) t ≡ before.fit_to ms vs t)
  unfolding refusal_to before.refusal_to fit_to before.fit_to
  fit_same t = (
    rw (least-ones, start-ones t),
    rw (least-ones, start-ones t, settle-ones most_frames (rho_of ms vs t) t (before.start_of ms vs t) (start-length t)),
  )

  -- a speed
  speed-same : (speed : Float) → (refusal_at (plain ms vs) speed ≡ before.refusal_at ms vs speed) × (fit_at (plain ms vs) speed ≡ before.fit_at ms vs speed)
  unfolding refusal_at before.refusal_at fit_at before.fit_at target_at before.target_at
  speed-same speed =
      let f = fit_same (before.target_at ms vs speed) in
      (rw (natural-ones, f.0), rw (natural-ones, f.1))

  -- an end
  end_same : (frames : ℕ) (end : End) → (refusal_to_end (plain ms vs) frames end ≡ before.refusal_to_end ms vs frames end) × (fit_to_end (plain ms vs) frames end ≡ before.fit_to_end ms vs frames end)
  end_same frames (At x) = fit_same (target_of x frames)
  end_same frames Open = (rw natural-ones, rw natural-ones)

-- of a group
module _ (ms vs : List Float) (agree : length vs ≡ length ms) where
  within-ones : (g : Group) → states_in g (plain ms vs) ≡ plain (within g ms) (within g vs)
  within-ones g = ap (states (within g ms) (within g vs)) (ap (take (g.to - g.from)) (drop-ones g.from ms) ∙ take-ones (g.to - g.from) (drop g.from ms))

  within-agree : (g : Group) → length (within g vs) ≡ length (within g ms)
  within-agree g = simp (length-take, length-drop, agree)

  along-same : (gs : List Group) (frames : ℕ) → (refusal_along (plain ms vs) gs frames ≡ before.refusal_along ms vs gs frames) × (fit_along (plain ms vs) gs frames ≡ before.fit_along ms vs gs frames)
  unfolding refusal_along before.refusal_along fit_along before.fit_along refusal_of before.refusal_of
  along-same [] frames = (refl, refl)
  along-same (g ∷ gs) frames =
      let f = end_same (within g ms) (within g vs) (within-agree g) frames g.end in
      let later = along-same gs (frames + total (before.fit_of ms vs g frames).durations) in
      (rw (within-ones g, f.0, f.1, later.0), rw (within-ones g, f.1, later.1))

-- ---- refusals before any work

ones-taken : (n : ℕ) → n ≤ 4096 → refusal_of_shortest (replicate n 1) ≡ 0
ones-taken n h =
    let f : (i : ℕ) → i < length {A = ℕ} (replicate n 1) → 1 ≤ get_or {A = ℕ} (replicate n 1) i 0 = λ i l. rw (get_or-replicate {A = ℕ} n i 1 0 (rw length-replicate at l)) (omega arith) in
    taken-fit (replicate n 1) (record { one_each = f; few = omega (arith, total-same n 1) })

-- a refusal that is none where nothing comes before it
behind : (k s : ℕ) → (k ≡ 0 → s ≡ 0) → or_else k s ≡ k
behind zero s f = f refl
behind (suc k) s f = refl

lists-ones : (n v o w : ℕ) → refusal_of_lists n v n o w ≡ before.refusal_of_lists n v o w
unfolding refusal_of_lists before.refusal_of_lists
lists-ones n v o w = rw (eq-eqb n n refl)

labels-ones : (k m n v o w : ℕ) → refusal_of_labels k m n v n o w ≡ before.refusal_of_labels k m n v o w
unfolding refusal_of_labels before.refusal_of_labels
labels-ones k m n v o w = rw (lists-ones n v o w)

module _ (ms vs : List Float) (out work : List ℕ) where
  abbrev early : ℕ
  early = before.refusal_of_lists (length ms) (length vs) (length out) (length work)

  early-lists : early ≡ 0 → Fitting (length ms) (length vs) (length ms) (length out) (length work)
  early-lists z = fitting _ _ _ _ _ (lists-ones _ _ _ _ ∙ z)

  early-ones : early_refusal (plain ms vs) out work ≡ early
  early-ones = rw (length-replicate {A = ℕ} (length ms) 1, lists-ones (length ms) (length vs) (length out) (length work)) (behind early _ (λ z. ones-taken (length ms) (early-lists z).few))

  module _ (k : ℕ) (ends : List Float) where
    abbrev early_along : ℕ
    early_along = before.refusal_of_labels k (length ends) (length ms) (length vs) (length out) (length work)

    early-labels : early_along ≡ 0 → Labels k (length ends) (length ms) × Fitting (length ms) (length vs) (length ms) (length out) (length work)
    early-labels z = labelled _ _ _ _ _ _ _ (labels-ones _ _ _ _ _ _ ∙ z)

    early-along : early_of_labels k ends (plain ms vs) out work ≡ early_along
    early-along = rw (length-replicate {A = ℕ} (length ms) 1, labels-ones k (length ends) (length ms) (length vs) (length out) (length work)) (behind early_along _ (λ z. ones-taken (length ms) (early-labels z).1.few))

-- ---- the calls

-- behind the refusal b, where there is none the refusals and the outcomes are the same
module _ (values : Outcome → List ℕ) (n : ℕ) (out work : List ℕ) (a : Answer) (out' work' : List ℕ) where
  abbrev Said : ℕ → ℕ → Outcome → Type 0
  Said b k o = Says (or_else b k) (values o) o.durations n out work a out' work'

  same-said : (b : ℕ) {j k : ℕ} {o p : Outcome} → (b ≡ 0 → (j ≡ k) × (o ≡ p)) → Said b j o ↔ Said b k p
  same-said zero f = rw ((f refl).0, (f refl).1) (λ s. s, λ s. s)
  same-said (suc b) f = (λ s. record { answer = s.answer; output = s.output; workspace = s.workspace }, λ s. record { answer = s.answer; output = s.output; workspace = s.workspace })

module _ (ms vs : List Float) (out work : List ℕ) (r : Result ℕ Refusal) (out' work' : List ℕ) where
  pub fit-ones : (len : Float) → FitSays (states ms vs (replicate (length ms) 1)) len out work r out' work' ↔ before.FitSays ms vs len out work r out' work'
  fit-ones len = rw (early-ones ms vs out work) (same-said (λ o. o.changes ∷ []) (length ms) out work (counted r) out' work' (early ms vs out work) (λ z. fit_same ms vs (early-lists ms vs out work z).agree (rounded_of len)))

  pub speed-ones : (speed : Float) → SpeedSays (states ms vs (replicate (length ms) 1)) speed out work r out' work' ↔ before.SpeedSays ms vs speed out work r out' work'
  speed-ones speed = rw (early-ones ms vs out work) (same-said (λ o. o.changes ∷ []) (length ms) out work (counted r) out' work' (early ms vs out work) (λ z. speed-same ms vs (early-lists ms vs out work z).agree speed))

-- ---- no drift: the shortest of a group sum to the number of its states

front-ones : (a n : ℕ) → a ≤ n → total (take a (replicate n 1)) ≡ a
unfolding total
front-ones zero n h = refl
front-ones (suc a) zero h = absurd (omega arith)
front-ones (suc a) (suc n) h = omega (arith, front-ones a n (omega arith))

part-ones : (a m n : ℕ) → a + m ≤ n → total (take m (drop a (replicate n 1))) ≡ m
part-ones a m n h = omega (arith, total-part (replicate n 1) a m, front-ones a n (omega arith), front-ones (a + m) n h)

module _ (k : ℕ) (ends : List Float) (n : ℕ) (cover : length ends * k ≡ n) where
  pub group-ones : (i : ℕ) → i < length ends → group_least k ends (replicate n 1) i ≡ group_states k ends i
  group-ones i h = part-ones (closed_before k ends i) (group_states k ends i) n (omega (arith, closed-most k ends i, suc-mul i k, mul-le-mul_right k h))

  pub drift_ones : (ds : List ℕ) → NoDrift k ends (replicate n 1) ds ↔ before.NoDrift k ends ds
  drift_ones ds = (λ f i h at. rw (← group-ones i h) (f i h at), λ f i h at. rw (group-ones i h) (f i h at))

module _ (ms vs : List Float) (nstate : ℕ) (ends : List Float) (out work : List ℕ) (r : Result Aligned Refusal) (out' work' : List ℕ) where
  pub align_ones : AlignSays (states ms vs (replicate (length ms) 1)) nstate ends out work r out' work' ↔ before.AlignSays ms vs nstate ends out work r out' work'
  align_ones = rw (early-along ms vs out work nstate ends) (same-said (λ o. length ms ∷ o.changes ∷ []) (length ms) out work (aligned r) out' work' (early_along ms vs out work nstate ends) (λ z. along-same ms vs (early-labels ms vs out work nstate ends z).1.agree (groups nstate 0 0 ends) 0))

  -- labels of a call that is accepted cover the states
  covered : before.AlignSays ms vs nstate ends out work r out' work' → (aligned r).number ≡ 0 → length ends * nstate ≡ length ms
  covered f z =
      let e : or_else (early_along ms vs out work nstate ends) (before.refusal_along ms vs (groups nstate 0 0 ends) 0) ≡ 0 = ap (λ (a : Answer). a.number) (sym f.answer) ∙ z in
      (early-labels ms vs out work nstate ends (or_none (early_along ms vs out work nstate ends) _ e).0).0.cover

  pub on_time_ones : AlignOnTime (states ms vs (replicate (length ms) 1)) nstate ends out work r out' work' ↔ before.AlignOnTime ms vs nstate ends out work r out' work'
  on_time_ones = (
    λ f. (let s = align_ones.0 f.says in record { says = s; on_time = λ z. (drift_ones nstate ends (length ms) (covered s z) out').0 (f.on_time z) }),
    λ f. record { says = align_ones.1 f.says; on_time = λ z. (drift_ones nstate ends (length ms) (covered f.says z) out').1 (f.on_time z) },
  )
