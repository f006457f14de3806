-- No drift: at each given end of an alignment that is accepted the running total is the end rounded, or the sum of its shortest more than before its group, whatever came before.
use mathlib.Core.Path.{◌≡◌, refl, sym, ap, ◌∙◌, subst}
use mathlib.Core.Bool.{true, false, cond}
use mathlib.Core.List.{List, ◌∷◌, ◌++◌}
use Prim.Native.Nat.{ℕ, zero, suc, ◌+◌, ◌-◌, ◌*◌, ◌≤◌, ◌<◌}
use native.Mathlib.Nat.{le_trans, zero-mul, suc-mul, mul-le-mul_right}
use native.Mathlib.Omega.{arith}
use lib.ListN.{length, get_or, drop}
use lib.Seq.{drop-drop, take_at, drop_at, take-append-le}
use lib.Ieee.{Float, nan, le}
use borrow.Rule.Slice.PartMut.{mid_len}
use Rattle.lists.specs.declared.Refusal.{Refusal}
use Rattle.std.proofs.Common.{Result}
use Rattle.lists.specs.Sizes.{most_frames}
use Rattle.lists.specs.Totals.{total}
use Rattle.lists.proofs.Sums.{total-part, total-front}
use Rattle.floats.specs.Numbers.{nought, Held}
use Rattle.steps.specs.Steps.{States, size, least, Outcome}
use Rattle.duration.specs.declared.Aligned.{Aligned}
use Rattle.duration.specs.Align.{Group, given, groups, states_in}
use Rattle.duration.specs.Drift.{OnTime, closed_before, up_to, NoDrift}
use Rattle.duration.specs.Fitting.{FairGroup, FairAlong, AcceptedAlong}
use Rattle.duration.specs.Fitting.FairAlong.{next}
use Rattle.duration.specs.Promise.{aligned, AlignSays, AlignOnTime}
use Rattle.duration.proofs.Refusals.{Labels}
use Rattle.duration.proofs.Aligning.{align_labels, align_shortest, align_theorem}
use Rattle.duration.proofs.Shortest.{Taken, total-some, part-one_each}
use Rattle.duration.proofs.Groups.{closed-most, groups-given, groups_open}
use Rattle.duration.proofs.OnTime.{on_time}

-- the first group of those that are fair
record Opened (ss : States) (g : Group) (gs : List Group) (frames : ℕ) (ds : List ℕ) : Type 0 where
  own : List ℕ
  rest : List ℕ
  changes : ℕ
  later : ℕ
  is : ds ≡ own ++ rest
  group : FairGroup ss g frames (record { durations = own; changes = changes })
  after : FairAlong ss gs (frames + total own) rest later

opened : {ss : States} {g : Group} {gs : List Group} {frames c : ℕ} {ds : List ℕ} → FairAlong ss (g ∷ gs) frames ds c → Opened ss g gs frames ds
opened (next f a) = record { own = _; rest = _; changes = _; later = _; is = refl; group = f; after = a }

module _ (ss : States) (k : ℕ) (ends : List Float) (ds : List ℕ) (some : 1 ≤ k) (cover : length ends * k ≡ size ss) (low : (i : ℕ) → i < length ss.shortest → 1 ≤ get_or ss.shortest i 0) (also : length ss.shortest ≡ size ss) (few : total ds ≤ most_frames) (held : Held ends) where
  -- the groups from label i on are fair, after the states before `done`
  record FairFrom (i done : ℕ) : Type 0 where
    changes : ℕ
    fair : FairAlong ss (groups k done (i * k) (drop i ends)) (up_to done ds) (drop done ds) changes

  -- a label with an end
  module _ (i done : ℕ) (here : i < length ends) (at : le nought (get_or ends i nan) ≡ true) (early : done ≤ i * k) (w : FairFrom i done) where
    abbrev x : Float
    x = get_or ends i nan

    abbrev g : Group
    g = given done (suc i * k) x

    first : Opened ss g (groups k (suc i * k) (suc i * k) (drop (suc i) ends)) (up_to done ds) (drop done ds)
    first = opened (subst (λ (gs : List Group). FairAlong ss gs (up_to done ds) (drop done ds) w.changes) (groups-given k ends i done here at) w.fair)

    within-states : suc i * k ≤ size ss
    within-states = rw (← cover) (mul-le-mul_right k here)

    states : size (states_in g ss) ≡ suc i * k - done
    states = mid_len done (suc i * k) ss.means within-states

    own-length : length first.own ≡ suc i * k - done
    own-length = first.group.count ∙ states

    join : done + (suc i * k - done) ≡ suc i * k
    join = omega (arith, suc-mul i k)

    total_here : up_to (suc i * k) ds ≡ up_to done ds + total first.own
    total_here = ap (λ (n : ℕ). up_to n ds) (sym join) ∙ total-part ds done (suc i * k - done) ∙ rw (first.is, take_at first.own first.rest (suc i * k - done) own-length)

    rest-here : drop (suc i * k) ds ≡ first.rest
    rest-here = ap (λ (n : ℕ). drop n ds) (sym join) ∙ sym (drop-drop (suc i * k - done) done ds) ∙ rw (first.is, drop_at first.own first.rest (suc i * k - done) own-length)

    fair-next : FairFrom (suc i) (suc i * k)
    fair-next = record { changes = first.later; fair = rw (total_here, rest-here) first.after }

    some-low : 0 < least (states_in g ss)
    some-low = total-some (states_in g ss).shortest (part-one_each ss.shortest done (suc i * k - done) low) (rw (mid_len done (suc i * k) ss.shortest (rw also within-states)) (omega (arith, suc-mul i k)))

    on_time_here : OnTime x (up_to done ds) (least (states_in g ss)) (up_to (suc i * k) ds)
    on_time_here =
        subst (λ (n : ℕ). OnTime x (up_to done ds) (least (states_in g ss)) n) (sym total_here)
        (on_time x (up_to done ds) (least (states_in g ss)) (total first.own) (held i) at
        (le_trans (rw (← total_here) (total-front ds (suc i * k))) few)
        some-low
        (λ h. (first.group.by_end.above h).sum)
        (λ h. ap (λ (o : Outcome). total o.durations) (first.group.by_end.otherwise h)))

  module _ (c : ℕ) (f : FairAlong ss (groups k 0 0 ends) 0 ds c) where
    fair_from : (i : ℕ) → i ≤ length ends → FairFrom i (closed_before k ends i)
    unfolding closed_before total
    fair_from zero h = record { changes = c; fair = rw (zero-mul k) f }
    fair_from (suc i) h =
        (elim (le nought (get_or ends i nan)) as (λ s. le nought (get_or ends i nan) ≡ s → FairFrom (suc i) (cond s (suc i * k) (closed_before k ends i))) [
          | true ↦ λ at. fair-next i (closed_before k ends i) h at (closed-most k ends i) (fair_from i (omega arith))
          | false ↦ λ at. (let w = fair_from i (omega arith) in record { changes = w.changes; fair = rw (← groups_open k ends i (closed_before k ends i) h at) w.fair })
        ])
        refl

    no_drift_of : NoDrift k ends ss.shortest ds
    no_drift_of i h at = on_time_here i (closed_before k ends i) h at (closed-most k ends i) (fair_from i (omega arith))

-- The theorem, of every outcome that an alignment's promise allows with an accepted answer
module _ (ss : States) (nstate : ℕ) (ends : List Float) (out work : List ℕ) (r : Result Aligned Refusal) (out' work' : List ℕ) (held : Held ends) (z : (aligned r).number ≡ 0) (f : AlignSays ss nstate ends out work r out' work') where
  low : (length ss.shortest ≡ size ss) × Taken ss.shortest
  low = align_shortest ss nstate ends out work r out' work' z f

  labels : Labels nstate (length ends) (size ss)
  labels = align_labels ss nstate ends out work r out' work' z f

  fair : AcceptedAlong ss (groups nstate 0 0 ends) out r out'
  fair = align_theorem ss nstate ends out work r out' work' z f

  same_total : (n : ℕ) → n ≤ size ss → up_to n out' ≡ up_to n fair.outcome.durations
  same_total n h = ap (up_to n) fair.output ∙ ap total (take-append-le n fair.outcome.durations (drop (size ss) out) (rw fair.count h))

  pub no_drift : NoDrift nstate ends ss.shortest out'
  no_drift i h at =
      let ds = fair.outcome.durations in
      let o = no_drift_of ss nstate ends ds labels.some labels.cover low.1.one_each low.0 fair.frames held fair.outcome.changes fair.fair i h at in
      let n : suc i * nstate ≤ size ss = rw (← labels.cover) (mul-le-mul_right nstate h) in
      let d : closed_before nstate ends i ≤ size ss = omega (arith, closed-most nstate ends i, suc-mul i nstate) in
      rw (same_total (closed_before nstate ends i) d, same_total (suc i * nstate) n) o

-- so what the call promises, with ends that were lent as f64
pub on_time_kept : (ss : States) (nstate : ℕ) (ends : List Float) (out work : List ℕ) (r : Result Aligned Refusal) (out' work' : List ℕ) → Held ends → AlignSays ss nstate ends out work r out' work' → AlignOnTime ss nstate ends out work r out' work'
on_time_kept ss nstate ends out work r out' work' held f = record { says = f; on_time = λ z. no_drift ss nstate ends out work r out' work' held z f }
