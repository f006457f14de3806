-- The call's door, what lies behind it, and what a caller learns of its outcome.
use mathlib.Core.Path.{◌≡◌, refl, sym, ap, ◌∙◌}
use mathlib.Core.Bool.{Bool, true, false, not, ◌&&◌, and-eq-true_iff}
use mathlib.Core.List.{List}
use Prim.Native.Nat.{ℕ, ◌≤◌, ◌<◌}
use native.Mathlib.Omega.{arith}
use Rattle.std.proofs.Common.{Option, None, Some}
use lib.ListN.{length}
use lib.Ieee.{Float}
use borrow.Author.Tests.{ltb-true, ltb-false, leb-true, eqb-true, lt-ltb, le-ltb, le-leb, eq-eqb, not-true, not-false}
use Rattle.lists.specs.Sizes.{most_states, most_frames}
use Rattle.lists.specs.Totals.{total}
use Rattle.steps.specs.Steps.{States, size, least, Outcome, settle}
use Rattle.steps.specs.Promise.{fit_together, in_reach, opens, too_long, SettleSays}
use Rattle.steps.specs.Inner.Asked.{Ready, Aim}

pub record Together (n v l d : ℕ) : Type 0 where
  pub some : 0 < n
  pub few : n ≤ most_states
  pub varis : v ≡ n
  pub shortest : l ≡ n
  pub work : d ≡ n

together : (n v l d : ℕ) → fit_together n v l d ≡ true → Together n v l d
together n v l d e =
    let w = (and-eq-true_iff _ _).0 e in
    let s = (and-eq-true_iff _ _).0 w.0 in
    let u = (and-eq-true_iff _ _).0 s.0 in
    let f = (and-eq-true_iff _ _).0 u.0 in
    record {
      some = ltb-true 0 n f.0;
      few = leb-true n most_states f.1;
      varis = eqb-true v n u.1;
      shortest = eqb-true l n s.1;
      work = eqb-true d n w.1;
    }

-- as it is found
pub lists-fit : (n v l d : ℕ) (b : Bool) → b ≡ fit_together n v l d → not b ≡ false → Together n v l d
lists-fit n v l d b e h = together n v l d (sym e ∙ not-false b h)

fit-together : (n v l d : ℕ) → Together n v l d → fit_together n v l d ≡ true
fit-together n v l d o = rw (lt-ltb 0 n o.some, le-leb n most_states o.few, eq-eqb v n o.varis, eq-eqb l n o.shortest, eq-eqb d n o.work)

in_reach_lem : (sum t : ℕ) → in_reach sum t ≡ true → (sum < t) × (t ≤ most_frames)
in_reach_lem sum t e = let r = (and-eq-true_iff _ _).0 e in (ltb-true sum t r.0, leb-true t most_frames r.1)

-- it stands open for lists that agree, and a target that is not too low and not too high
pub stands_open : (ss : States) (ds : List ℕ) (t : ℕ) → Together (size ss) (length ss.varis) (length ss.shortest) (length ds) → least ss < t → t ≤ most_frames → opens ss ds t ≡ true
stands_open ss ds t o a b = rw (fit-together _ _ _ _ o, lt-ltb (least ss) t a, le-leb t most_frames b)

outcome_is : (o : Outcome) (k : ℕ) (es : List ℕ) → Some k ≡ Some o.changes → es ≡ o.durations → o ≡ record { durations = es; changes = k }
outcome_is o k es e f = let n : k ≡ o.changes = cc in rw (n, f)

module _ (rho : Float) (t : ℕ) (ss : States) (ds : List ℕ) where
  abbrev Open : Type 0
  Open = opens ss ds t ≡ true

  -- ---- the ways through the call

  shut : opens ss ds t ≡ false → SettleSays rho t ss ds (Some 0) ds
  shut o = record { answer = rw o; durations = rw o }

  module _ (b : Bool) (e : b ≡ fit_together (size ss) (length ss.varis) (length ss.shortest) (length ds)) where
    pub settles_none : not b ≡ true → SettleSays rho t ss ds (Some 0) ds
    settles_none h = shut (ap (λ (c : Bool). c && in_reach (least ss) t) (sym e ∙ not-true b h))

    -- the lists fit together, and their totals are taken
    module _ (h : not b ≡ false) where
      fit : Together (size ss) (length ss.varis) (length ss.shortest) (length ds)
      fit = lists-fit _ _ _ _ b e h

      module _ (low sum : ℕ) (p : low ≡ least ss) (q : sum ≡ total ds) (c : Bool) (r : c ≡ in_reach low t) where
        pub settles_low : not c ≡ true → SettleSays rho t ss ds (Some 0) ds
        settles_low g = shut (rw (sym e ∙ not-false b h, ← p, ← r, not-true c g))

        module _ (g : not c ≡ false) where
          reached : (low < t) × (t ≤ most_frames)
          reached = in_reach_lem low t (sym r ∙ not-false c g)

          is_open : Open
          is_open = stands_open ss ds t fit (rw (← p) reached.0) reached.1

          pub settles_over : most_frames < sum → SettleSays rho t ss ds None ds
          settles_over l = let long : too_long ds ≡ true = lt-ltb most_frames (total ds) (omega arith) in record { answer = rw (is_open, long); durations = rw (is_open, long) }

          module _ (l : sum ≤ most_frames) where
            pub ready : Ready ss ds
            ready = record { some = fit.some; few = fit.few; varis = fit.varis; shortest = fit.shortest; work = fit.work; small = omega arith }

            pub aimed : Aim ss ds sum t
            aimed = record { known = q; above = rw (← p) reached.0; within = reached.1 }

            pub settles_all : (k : ℕ) (es : List ℕ) → settle most_frames rho ss t ds ≡ record { durations = es; changes = k } → SettleSays rho t ss ds (Some k) es
            settles_all k es f = let short : too_long ds ≡ false = le-ltb most_frames (total ds) (omega arith) in record { answer = rw (is_open, short, f); durations = rw (is_open, short, f) }

  -- ---- what a caller learns, whose lists fit

  module _ (o : Open) (r : Option ℕ) (es : List ℕ) (s : SettleSays rho t ss ds r es) where
    pub was-over : r ≡ None → most_frames < total ds
    was-over e =
        (elim (too_long ds) as (λ b. too_long ds ≡ b → most_frames < total ds) [
          | true ↦ λ q. ltb-true most_frames (total ds) q
          | false ↦ λ q. absurd (let p : None ≡ Some (settle most_frames rho ss t ds).changes = sym e ∙ s.answer ∙ rw (o, q) in let z : ◌≡◌ {A = ℕ} 0 1 = cc in omega arith)
        ])
        refl

    pub was_settled : (k : ℕ) → r ≡ Some k → (total ds ≤ most_frames) × (settle most_frames rho ss t ds ≡ record { durations = es; changes = k })
    was_settled k e =
        (elim (too_long ds) as (λ b. too_long ds ≡ b → (total ds ≤ most_frames) × (settle most_frames rho ss t ds ≡ record { durations = es; changes = k })) [
          | true ↦ λ q. absurd (let p : Some k ≡ None = sym e ∙ s.answer ∙ rw (o, q) in let z : ◌≡◌ {A = ℕ} 0 1 = cc in omega arith)
          | false ↦ λ q. (ltb-false most_frames (total ds) q, outcome_is (settle most_frames rho ss t ds) k es (sym e ∙ s.answer ∙ rw (o, q)) (s.durations ∙ rw (o, q)))
        ])
        refl
