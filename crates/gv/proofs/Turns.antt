-- Laws of the global variance's passes over a region: a step, a turn, five turns.
use mathlib.Core.Path.{◌≡◌, refl, sym, ap, ◌∙◌}
use mathlib.Core.Bool.{Bool}
use mathlib.Core.List.{List, []}
use Prim.Native.Nat.{ℕ, zero, suc, ◌+◌, ◌-◌, ◌*◌, ◌<◌, ◌≤◌}
use native.Mathlib.Nat.{mul-le-mul_left, add-sub_cancel_left}
use native.Mathlib.Numerals.{add-one}
use native.Mathlib.Omega.{arith}
use borrow.Rule.Slice.PartMut.{put_mid}
use lib.ListN.{length, set, take, drop, take-append-drop, get_or-append}
use lib.Seq.{sets, length-sets, length-take-le, drop_at}
use lib.Ieee.{Float, nan, binary64, add, neg}
use Rattle.lists.specs.Build.{build}
use Rattle.lists.specs.Parts.{part}
use Rattle.lists.proofs.Fills.{build-length}
use Rattle.lists.proofs.Builds.{build-same}
use Rattle.lists.proofs.Stores.{sets-next}
use Rattle.lists.proofs.Rows.{row_in}
use Rattle.lists.proofs.Regions.{cut-length, returned, stored_rule}
use Rattle.region.specs.Rows.{elem, entry}
use Rattle.region.specs.Region.{Region}
use Rattle.region.specs.Inner.Passes.{replaced}
use Rattle.region.specs.declared.Places.{Places}
use Rattle.region.proofs.Readings.{part_elem, read_under, read-beyond}
use Rattle.region.proofs.Stores.{factors-stored, values-whole}
use Rattle.gv.specs.Gv.{step_init, mean_of, vari_of, conv_gv, gradient, weight_of, hmm_obj, gv_obj, size_after}
use Rattle.gv.specs.Parmgen.{iterate, State, state, values_of, next_at, next_step, objective, turn}
use Rattle.gv.specs.Inner.Turns.{Suited, Pulls, moved_in, lists_in, gradient_of, put, turn_in, Turned, five_turns}
use Rattle.gv.specs.declared.MlpgGlobalVariance.{MlpgGlobalVariance}
use Rattle.gv.specs.declared.steps.Pull.{Pull}
use Rattle.gv.proofs.Lengths.{gradient-long, conv_long, turns_long}

-- ---- a region M, its lists and its gradient

module _ (g : MlpgGlobalVariance) (p : Places) (M : List Float) (z : Suited g p (length M)) where
  abbrev n : ℕ
  n = g.length

  abbrev w : ℕ
  w = g.width

  abbrev r : Region
  r = lists_in g p M

  abbrev D : List Float
  D = gradient_of g r

  fit : n ≤ n * w
  fit = omega (arith, mul-le-mul_left n z.some)

  pub lists-factors : n ≤ length r.factors
  lists-factors = let s = z.spaced in omega (arith, fit, cut-length p.factors (n * w) M (omega arith))

  pub lists-values : length r.values ≡ n
  lists-values = cut-length p.values n M z.spaced.room

  D-long : length D ≡ n
  D-long = gradient-long w r.matrix r.values ∙ lists-values

  -- ---- a step, t frames done

  pub step-next : (on : List Bool) (s : Pull) (m : List Float) (t : ℕ) (x : Float) → t < n → m ≡ sets M p.values (build (moved_in g p on s M) t) → x ≡ moved_in g p on s m t
      → set m (p.values + t) x ≡ sets M p.values (build (moved_in g p on s M) (t + 1))
  step-next on s m t x h e ex =
      let q = z.spaced in
      let vs = build (moved_in g p on s M) t in
      let lv : length vs ≡ t = build-length (moved_in g p on s M) t in
      let in_row : t * w + 0 < n * w = row_in w t n 0 h z.some in
      let under : (i : ℕ) → i < p.values → elem m i ≡ elem M i = λ i b. ap (λ (l : List Float). elem l i) e ∙ read_under vs M p.values i b in
      let value : elem m (p.values + t) ≡ elem M (p.values + t) = ap (λ (l : List Float). elem l (p.values + t)) e ∙ read-beyond vs M p.values (p.values + t) (omega arith) in
      stored_rule (moved_in g p on s M) M m p.values t x (ex ∙ rw (under (p.rows + t * w) (omega arith), under (p.factors + t) (omega (arith, fit)), under (p.right + t) (omega arith), value)) e

  -- ---- a turn: m₁ is M with the gradient, m₂ is m₁ with the next values

  module _ (m₁ : List Float) (e₁ : m₁ ≡ sets M p.factors D) where
    graded : lists_in g p m₁ ≡ put n D r.values r
    graded = ap (lists_in g p) e₁ ∙ factors-stored p n w M z.spaced p.factors D 0 (omega arith) (omega (arith, fit, D-long)) ∙ rw (sets-next [] D r.factors 0 n refl (omega (arith, D-long)) lists-factors)

    at_row : (t : ℕ) → t < n → elem m₁ (p.rows + t * w) ≡ entry w r.matrix t 0
    at_row t h =
        let c : p.rows + t * w ≡ p.rows + (t * w + 0) = omega arith in
        ap (elem m₁) c ∙ part_elem p.rows (n * w) (t * w + 0) m₁ (row_in w t n 0 h z.some) ∙ ap (λ (q : Region). entry w q.matrix t 0) graded

    at_right : (t : ℕ) → t < n → elem m₁ (p.right + t) ≡ elem r.side t
    at_right t h = part_elem p.right n t m₁ h ∙ ap (λ (q : Region). elem q.side t) graded

    at-gradient : (t : ℕ) → t < n → elem m₁ (p.factors + t) ≡ elem D t
    at-gradient t h = part_elem p.factors (n * w) t m₁ (omega (arith, fit)) ∙ ap (λ (q : Region). elem q.factors t) graded ∙ get_or-append D _ nan t (omega (arith, D-long))

    at_value : (t : ℕ) → t < n → elem m₁ (p.values + t) ≡ elem r.values t
    at_value t h = part_elem p.values n t m₁ h ∙ ap (λ (q : Region). elem q.values t) graded

    module _ (on : List Bool) (gv_mean gv_vari : Float) (s : Pull) (mean vari size : Float) (k : Pulls s g.windows n gv_mean gv_vari mean vari size) where
      abbrev step : ℕ → Float
      step = moved_in g p on s m₁

      steps_are : build step n ≡ next_step w r.matrix r.side on g.windows gv_mean gv_vari D size mean vari r.values
      unfolding next_step next_at
      steps_are = rw lists-values (build-same step _ n
          (λ t h. rw (at_row t h, at-gradient t h, at_right t h, at_value t h, k.weight, k.dv, k.scale, k.spread, k.twice, k.mean, k.step, lists-values)))

      pub turned : (m₂ : List Float) (hmm obj before prev last : Float) → m₂ ≡ sets m₁ p.values (build step n) → mean ≡ mean_of on r.values → vari ≡ vari_of on r.values
          → hmm ≡ hmm_obj (weight_of g.windows n) r.side D r.values → obj ≡ neg (add binary64 hmm (gv_obj gv_mean gv_vari vari)) → size ≡ size_after before prev obj → last ≡ obj
          → Turned g on gv_mean gv_vari r before prev (lists_in g p m₂) size last
      unfolding turn objective
      turned m₂ hmm obj before prev last e₂ em ev eh eo es el =
          let long : length m₁ ≡ length M = ap length e₁ ∙ length-sets M p.factors D in
          let lists : lists_in g p m₂ ≡ put n D (build step n) r =
          ap (lists_in g p) e₂ ∙ values-whole p n w m₁ (rw long z.spaced) (build step n) (build-length step n) ∙ ap (λ (q : Region). replaced q q.factors (build step n)) graded in
          let next : state (build step n) size last ≡ turn_in g on gv_mean gv_vari r (state r.values before prev) = rw (steps_are, el, es, eo, eh, ev, em, lists-values) in
          record { region = lists ∙ ap (λ (t : State). put n D (values_of t) r) next; descent = ap (λ (q : Region). state q.values size last) lists ∙ next }

-- ---- k turns of a region's lists r

module _ (g : MlpgGlobalVariance) (on : List Bool) (gv_mean gv_vari : Float) (r : Region) where
  abbrev pub state_after : ℕ → State
  state_after k = iterate (turn_in g on gv_mean gv_vari r) k (state r.values step_init nan)

  -- in front of the factors: what was there, or the gradient of the values before
  abbrev pub front_after : ℕ → List Float
  front_after zero = take g.length r.factors
  front_after (suc k) = gradient g.width r.matrix (values_of (state_after k))

  pub record Turning (k : ℕ) (q : Region) (step prev : Float) : Type 0 where
    pub region : q ≡ put g.length (front_after k) (values_of (state_after k)) r
    pub descent : state q.values step prev ≡ state_after k

  pub turning_none : (step prev : Float) → step ≡ step_init → prev ≡ nan → Turning 0 r step prev
  unfolding iterate
  turning_none step prev e h = record { region = rw (take-append-drop g.length r.factors); descent = rw (e, h) }

  module _ (lf : g.length ≤ length r.factors) (lv : length r.values ≡ g.length) where
    front_long : (k : ℕ) → length (front_after k) ≡ g.length
    front_long zero = length-take-le g.length r.factors lf
    front_long (suc k) = gradient-long g.width r.matrix (values_of (state_after k)) ∙ turns_long g.width r.matrix r.side on g.windows gv_mean gv_vari k r.values step_init nan ∙ lv

    pub turning_next : (k : ℕ) (q q' : Region) (step prev step' prev' : Float) → Turning k q step prev → Turned g on gv_mean gv_vari q step prev q' step' prev' → Turning (k + 1) q' step' prev'
    unfolding iterate
    turning_next k q q' step prev step' prev' a t =
        let matrix : q.matrix ≡ r.matrix = ap (λ (x : Region). x.matrix) a.region in
        let side : q.side ≡ r.side = ap (λ (x : Region). x.side) a.region in
        let next : turn_in g on gv_mean gv_vari q (state q.values step prev) ≡ state_after (suc k) = rw (matrix, side, a.descent) in
        let front : gradient_of g q ≡ front_after (suc k) = rw (matrix, ap values_of a.descent) in
        rw add-one (record {
          region = t.region ∙ rw (front, next) (ap (put g.length (front_after (suc k)) (values_of (state_after (suc k)))) a.region ∙ rw (drop_at (front_after k) (drop g.length r.factors) g.length (front_long k)));
          descent = t.descent ∙ next;
        })

-- ---- the values of a region M were lent, came back rescaled as y, and five turns followed

module _ (g : MlpgGlobalVariance) (p : Places) (on : List Bool) (gv_mean gv_vari : Float) (M : List Float) (z : Suited g p (length M)) (y : List Float)
    (drawn : y ≡ conv_gv on gv_mean (part p.values (p.values + g.length - p.values) M)) where
  abbrev rescaled : List Float
  rescaled = put_mid p.values (p.values + g.length - p.values) M y

  count_is : p.values + g.length - p.values ≡ g.length
  count_is = add-sub_cancel_left p.values g.length

  y_is : y ≡ conv_gv on gv_mean (lists_in g p M).values
  y_is = rw count_is at drawn

  y-long : length y ≡ g.length
  y-long = ap length y_is ∙ conv_long on gv_mean (lists_in g p M).values ∙ lists-values g p M z

  rescaled_is : rescaled ≡ sets M p.values y
  rescaled_is = returned p.values (p.values + g.length) M y (omega arith) z.spaced.room (y-long ∙ sym count_is)

  pub rescaled-long : length rescaled ≡ length M
  rescaled-long = ap length rescaled_is ∙ length-sets M p.values y

  pub five-turned : (q : Region) → q ≡ five_turns g on gv_mean gv_vari (lists_in g p rescaled) (lists_in g p rescaled).values → q ≡ five_turns g on gv_mean gv_vari (lists_in g p M) (conv_gv on gv_mean (lists_in g p M).values)
  five-turned q e =
      let lists : lists_in g p rescaled ≡ replaced (lists_in g p M) (lists_in g p M).factors y = ap (lists_in g p) rescaled_is ∙ values-whole p g.length g.width M z.spaced y y-long in
      e ∙ ap (λ (x : Region). five_turns g on gv_mean gv_vari x x.values) lists ∙ ap (five_turns g on gv_mean gv_vari (lists_in g p M)) y_is
