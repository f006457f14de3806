-- The ways out of the refusals of a trajectory, what an accepted call has, and the ways out of the call.
use mathlib.Core.Path.{◌≡◌, refl, sym, ◌∙◌}
use mathlib.Core.Bool.{Bool, true, false, cond, not, ◌||◌, ◌&&◌}
use mathlib.Core.List.{List, ◌++◌}
use Prim.Native.Nat.{ℕ, ◌+◌, ◌*◌, ◌^◌, ◌<◌, ◌≤◌}
use native.Mathlib.Nat.{mul-le-mul_left, mul-le-mul_right}
use native.Mathlib.Omega.{arith}
use borrow.Author.Tests.{lt-ltb, le-ltb, ltb-false, eq-eqb, ne_eqb, eqb-true, not-true, not-false}
use lib.Dec.{ltb, eqb}
use lib.ListN.{length, take, drop, replicate, length-append, length-replicate}
use lib.Seq.{sets, drop_at}
use lib.Ieee.{Float}
use Rattle.lists.specs.Sizes.{outside}
use Rattle.lists.specs.Totals.{total}
use Rattle.std.proofs.Common.{Ok, Err}
use Rattle.lists.specs.Refusals.{number_of, or_else}
use Rattle.lists.specs.declared.Refusal.{Refusal}
use Rattle.lists.proofs.Answers.{untouched}
use Rattle.lists.proofs.Ends.{refuses, not_none}
use Rattle.lists.proofs.Flags.{neither}
use Rattle.lists.proofs.Refusals.{or_first, or_none}
use Rattle.lists.proofs.Sums.{total-whole}
use Rattle.lists.proofs.Stores.{filled}
use Rattle.lists.proofs.Fills.{build-length}
use Rattle.model.specs.Windows.{widths_fit, all_finite, window_refusal}
use Rattle.model.proofs.Windows.{fit-few}
use Rattle.mlpg_adjust.specs.Trajectory.{record_size, gv_on, state_size, trajectory, numbers_of}
use Rattle.lists.specs.Answers.{written}
use Rattle.mlpg_adjust.specs.Clamps.{clamped_high, clamped_low}
use Rattle.mlpg_adjust.specs.Promise.{lengths_of, out_of_range, gv_disagrees, disagree, short, stream_refusal, create_refusal, zero_floats, zero_marks, CreateSays}
use Rattle.mlpg_adjust.specs.Inner.Groups.{Shaped, GvFits, Room}
use Rattle.mlpg_adjust.specs.declared.Stream.{Stream}
use Rattle.mlpg_adjust.specs.declared.refusing.Lengths.{Lengths}
use Rattle.mlpg_adjust.specs.declared.Clamped.{Clamped}
use Rattle.band.proofs.Ways.{band-narrow}

-- ---- how many numbers a record has

pub pairs-few : (v windows : ℕ) → v ≤ 64 → windows ≤ 4 → windows * v ≤ 256
pairs-few v windows a b = omega (arith, mul-le-mul_left windows a, mul-le-mul_right 64 b)

pub size_small : (v windows : ℕ) (masked : Bool) → v ≤ 64 → windows ≤ 4 → record_size v windows masked ≤ 513
size_small v windows true a b = omega (arith, pairs-few v windows a b)
size_small v windows false a b = omega (arith, pairs-few v windows a b)

-- ---- 4

module _ (s : Stream) (ws : List ℕ) (few : length ws ≤ 4) (cs states t : ℕ) (n : Lengths) (e : t ≡ total (take (2 ^ 32) ws)) where
  summed : t ≡ total ws
  summed = e ∙ total-whole ws (omega arith)

  pub disagree-taps : (cs ≡ t → ⊥) → true ≡ disagree s ws cs states n
  unfolding disagree
  disagree-taps h = rw (← summed, ne_eqb cs t h)

  module _ (a : cs ≡ t) (size : ℕ) (o : size ≡ state_size s ws) where
    pub disagree-records : (n.records ≡ states * size → ⊥) → true ≡ disagree s ws cs states n
    unfolding disagree
    disagree-records h = rw (← summed, eq-eqb cs t a, ← o, ne_eqb n.records (states * size) h)

    pub disagree-rest : n.records ≡ states * size → gv_disagrees s states n ≡ disagree s ws cs states n
    unfolding disagree
    disagree-rest h = rw (← summed, eq-eqb cs t a, ← o, eq-eqb n.records (states * size) h)

-- ---- the smallest number that applies

pub frames_are : (ds : List ℕ) (n : ℕ) → n ≡ total (take (2 ^ 32) ds) → length ds ≤ 4096 → n ≡ total ds
frames_are ds n e few = e ∙ total-whole ds (omega arith)

-- what is left where 3 is not given
pub record InRange (v states : ℕ) : Type 0 where
  pub few : states ≤ 4096
  pub some_v : 0 < v
  pub most_v : v ≤ 64

three-tests : (a b d : Bool) → a || b || d ≡ false → (a ≡ false) × (b ≡ false) × (d ≡ false)
three-tests false false false h = (refl, refl, refl)
three-tests false false true h = let z : ◌≡◌ {A = ℕ} 0 1 = cc in absurd (omega arith)
three-tests false true d h = let z : ◌≡◌ {A = ℕ} 0 1 = cc in absurd (omega arith)
three-tests true b d h = let z : ◌≡◌ {A = ℕ} 0 1 = cc in absurd (omega arith)

pub in_range : (v states : ℕ) → out_of_range v states ≡ false → InRange v states
in_range v states h =
    let t = neither (ltb 4096 states) (outside v) h in
    let u = neither (ltb v 1) (ltb 64 v) t.1 in
    record { few = ltb-false 4096 states t.0; some_v = ltb-false v 1 u.0; most_v = ltb-false 64 v u.1 }

has_room : (v frames : ℕ) (n : Lengths) → short v frames n ≡ false → Room v frames n
has_room v frames n h =
    let t = three-tests (ltb n.out (frames * v)) (ltb n.work (frames * 48)) (ltb n.marks (frames * 4)) h in
    record { numbers = ltb-false n.out (frames * v) t.0; floats = ltb-false n.work (frames * 48) t.1; counts = ltb-false n.marks (frames * 4) t.2 }

module _ (s : Stream) (ws : List ℕ) (cs : List Float) (ds : List ℕ) (lengths : Lengths) where
  abbrev refusal : ℕ
  refusal = stream_refusal s ws cs ds lengths

  module _ (f : Bool) (ef : f ≡ widths_fit ws) where
    pub refused_1 : not f ≡ true → ◌≡◌ {A = ℕ} 1 refusal
    unfolding stream_refusal
    refused_1 h = rw (← ef, not-true f h)

    module _ (nf : not f ≡ false) (g : Bool) (eg : g ≡ all_finite cs) where
      pub refused_2 : not g ≡ true → ◌≡◌ {A = ℕ} 2 refusal
      unfolding stream_refusal
      refused_2 h = rw (← ef, not-false f nf, ← eg, not-true g h)

      module _ (ng : not g ≡ false) (t : Bool) (et : t ≡ out_of_range s.v (length ds)) where
        pub refused_3 : t ≡ true → ◌≡◌ {A = ℕ} 3 refusal
        unfolding stream_refusal
        refused_3 h = rw (← ef, not-false f nf, ← eg, not-false g ng, ← et, h)

        module _ (nt : t ≡ false) (d : Bool) (ed : d ≡ disagree s ws (length cs) (length ds) lengths) where
          pub refused_4 : d ≡ true → ◌≡◌ {A = ℕ} 4 refusal
          unfolding stream_refusal
          refused_4 h = rw (← ef, not-false f nf, ← eg, not-false g ng, ← et, nt, ← ed, h)

          module _ (nd : d ≡ false) (n : ℕ) (en : n ≡ total (take (2 ^ 32) ds)) where
            counted : n ≡ total ds
            counted = frames_are ds n en (in_range s.v (length ds) (sym et ∙ nt)).few

            pub refused_5 : 65536 < n → ◌≡◌ {A = ℕ} 5 refusal
            unfolding stream_refusal
            refused_5 h = rw (← ef, not-false f nf, ← eg, not-false g ng, ← et, nt, ← ed, nd, ← counted, lt-ltb 65536 n h)

            pub refused_none : n ≤ 65536 → ◌≡◌ {A = ℕ} 0 refusal
            unfolding stream_refusal
            refused_none h = rw (← ef, not-false f nf, ← eg, not-false g ng, ← et, nt, ← ed, nd, ← counted, le-ltb 65536 n h)

-- ---- an accepted call

-- lists that agree: what is left where 4 is not given
record Agree (s : Stream) (ws : List ℕ) (cs states : ℕ) (n : Lengths) : Type 0 where
  pub whole : cs ≡ total ws
  pub recorded : n.records ≡ states * state_size s ws
  pub varied : GvFits s states n.gv n.switches

both-agree : (on a b : Bool) → (on && (not a || not b)) ≡ false → on ≡ true → (a ≡ true) × (b ≡ true)
both-agree false a b h e = let z : ◌≡◌ {A = ℕ} 0 1 = cc in absurd (omega arith)
both-agree true false b h e = let z : ◌≡◌ {A = ℕ} 0 1 = cc in absurd (omega arith)
both-agree true true false h e = let z : ◌≡◌ {A = ℕ} 0 1 = cc in absurd (omega arith)
both-agree true true true h e = (refl, refl)

agree : (s : Stream) (ws : List ℕ) (cs states : ℕ) (n : Lengths) → disagree s ws cs states n ≡ false → Agree s ws cs states n
unfolding disagree
agree s ws cs states n h =
    let t = three-tests (not (eqb cs (total ws))) (not (eqb n.records (states * state_size s ws))) (gv_disagrees s states n) h in
    let u = both-agree (gv_on s.gv) (eqb n.gv (2 * s.v)) (eqb n.switches states) t.2 in
    record {
      whole = eqb-true cs (total ws) (not-false (eqb cs (total ws)) t.0);
      recorded = eqb-true n.records (states * state_size s ws) (not-false (eqb n.records (states * state_size s ws)) t.1);
      varied = record { targets = λ e. omega (arith, eqb-true n.gv (2 * s.v) (u e).0); switched = λ e. eqb-true n.switches states (u e).1 };
    }

five-tests : (f g t d n : Bool) → ◌≡◌ {A = ℕ} (or_else (cond f 0 1) (or_else (cond g 0 2) (or_else (cond t 3 0) (or_else (cond d 4 0) (cond n 5 0))))) 0
    → (f ≡ true) × (g ≡ true) × (t ≡ false) × (d ≡ false) × (n ≡ false)
five-tests false g t d n h = absurd (omega arith)
five-tests true false t d n h = absurd (omega arith)
five-tests true true true d n h = absurd (omega arith)
five-tests true true false true n h = absurd (omega arith)
five-tests true true false false true h = absurd (omega arith)
five-tests true true false false false h = (refl, refl, refl, refl, refl)

six_test : (x : Bool) → ◌≡◌ {A = ℕ} (cond x 6 0) 0 → x ≡ false
six_test true h = absurd (omega arith)
six_test false h = refl

-- what streamRefusal ≡ 0 leaves: lists of an accepted shape
module _ (s : Stream) (ws : List ℕ) (cs : List Float) (ds : List ℕ) (n : Lengths) (z : stream_refusal s ws cs ds n ≡ 0) where
  passed : (widths_fit ws ≡ true) × (all_finite cs ≡ true) × (out_of_range s.v (length ds) ≡ false) × (disagree s ws (length cs) (length ds) n ≡ false) × (ltb 65536 (total ds) ≡ false)
  unfolding stream_refusal
  passed = five-tests (widths_fit ws) (all_finite cs) (out_of_range s.v (length ds)) (disagree s ws (length cs) (length ds) n) (ltb 65536 (total ds)) z

  agreed : Agree s ws (length cs) (length ds) n
  agreed = agree s ws (length cs) (length ds) n passed.3

  windows : window_refusal ws cs ≡ 0
  unfolding window_refusal
  windows = rw (passed.0, passed.1, eq-eqb (length cs) (total ws) agreed.whole)

  pub passed-finite : all_finite cs ≡ true
  passed-finite = passed.1

  pub passed_shape : (rs : List Float) → length rs ≡ n.records → Shaped s ws cs rs ds
  passed_shape rs e =
      let r = in_range s.v (length ds) passed.2 in
      record {
        some_v = r.some_v;
        most_v = r.most_v;
        fit = passed.0;
        most-windows = fit-few ws passed.0;
        most_width = band-narrow ws cs windows;
        whole = agreed.whole;
        recorded = e ∙ agreed.recorded;
        few = r.few;
        frames = ltb-false 65536 (total ds) passed.4;
      }

  pub passed_gv : GvFits s (length ds) n.gv n.switches
  passed_gv = agreed.varied

-- 6 comes after them
module _ (s : Stream) (ws : List ℕ) (cs : List Float) (ds : List ℕ) (lengths : Lengths) where
  module _ (k : ℕ) (e : k ≡ stream_refusal s ws cs ds lengths) where
    pub refused-before : (k ≡ 0 → ⊥) → k ≡ create_refusal s ws cs ds lengths
    unfolding create_refusal
    refused-before h = rw (← e) (sym (or_first k (cond (short s.v (total ds) lengths) 6 0) h))

  pub refused_first : (e : Refusal) → number_of e ≡ stream_refusal s ws cs ds lengths → number_of e ≡ create_refusal s ws cs ds lengths
  refused_first e q = refused-before (number_of e) q (not_none e (number_of e) refl)

  module _ (z : 0 ≡ stream_refusal s ws cs ds lengths) where
    pub range_passed : InRange s.v (length ds) × (total ds ≤ 65536)
    range_passed = let p = passed s ws cs ds lengths (sym z) in (in_range s.v (length ds) p.2, ltb-false 65536 (total ds) p.4)

    pub refused_6 : (n : ℕ) → n ≡ total ds → (x : Bool) → x ≡ short s.v n lengths → ◌≡◌ {A = ℕ} (cond x 6 0) (create_refusal s ws cs ds lengths)
    unfolding create_refusal
    refused_6 n c x ex = rw (← z, ← c, ← ex)

-- what createRefusal ≡ 0 leaves: that, and room for what is written
module _ (s : Stream) (ws : List ℕ) (cs rs : List Float) (ds : List ℕ) (gv : List Float) (switches : List ℕ) (out work : List Float) (marks : List ℕ)
    (z : create_refusal s ws cs ds (lengths_of rs gv switches out work marks) ≡ 0) where
  abbrev n : Lengths
  n = lengths_of rs gv switches out work marks

  six : (stream_refusal s ws cs ds n ≡ 0) × ◌≡◌ {A = ℕ} (cond (short s.v (total ds) n) 6 0) 0
  unfolding create_refusal
  six = or_none (stream_refusal s ws cs ds n) (cond (short s.v (total ds) n) 6 0) z

  pub accepted_shape : Shaped s ws cs rs ds
  accepted_shape = passed_shape s ws cs ds n six.0 rs refl

  pub accepted_gv : GvFits s (length ds) (length gv) (length switches)
  accepted_gv = passed_gv s ws cs ds n six.0

  pub accepted-room : Room s.v (total ds) n
  accepted-room = has_room s.v (total ds) n (six_test (short s.v (total ds) n) six.1)

-- ---- what is written

-- n frames of numbers in front of a list
pub numbers-written : (s : Stream) (ws : List ℕ) (cs rs : List Float) (ds : List ℕ) (gv : List Float) (switches : List ℕ) (n : ℕ) (front old : List Float) → n ≡ total ds
    → front ≡ numbers_of s ws cs rs ds gv switches → front ++ drop (n * s.v) old ≡ written 0 (numbers_of s ws cs rs ds gv switches) old
unfolding numbers_of trajectory
numbers-written s ws cs rs ds gv switches n front old e o = rw (o, e, build-length _ (total ds * s.v))

-- a front of n zeroed, as many as m
pub zeroed : {A : Type 0} (n m : ℕ) (v : A) (front old l : List A) → n ≡ m → length front ≡ n → n ≤ length old → l ≡ sets (front ++ drop n old) 0 (replicate n v) → l ≡ written 0 (replicate m v) old
zeroed n m v front old l q e h o =
    let g : length (front ++ drop n old) ≡ length front + length (drop n old) = length-append front (drop n old) in
    o ∙ filled n v (front ++ drop n old) (omega arith) ∙ rw (drop_at front (drop n old) n e, q, length-replicate m v)

-- ---- the ways out of the call

module _ (s : Stream) (ws : List ℕ) (cs rs : List Float) (ds : List ℕ) (gv : List Float) (switches : List ℕ) (out work : List Float) (marks : List ℕ) where
  pub create_refused : (e : Refusal) → number_of e ≡ create_refusal s ws cs ds (lengths_of rs gv switches out work marks) → CreateSays s ws cs rs ds gv switches out work marks (Err e) out work marks
  create_refused e q =
      let n : number_of e ≡ 0 → ⊥ = not_none e (number_of e) refl in
      record { number = q; answer = refuses e (number_of e) _ refl; numbers = untouched (number_of e) _ out n; space = untouched (number_of e) _ work n; counts = untouched (number_of e) _ marks n }

  pub create_done : (out' work' : List Float) (marks' : List ℕ) → create_refusal s ws cs ds (lengths_of rs gv switches out work marks) ≡ 0
      → out' ≡ written 0 (numbers_of s ws cs rs ds gv switches) out → work' ≡ written 0 (zero_floats (total ds)) work → marks' ≡ written 0 (zero_marks (total ds)) marks
      → (r : Clamped) → (r.high ≡ clamped_high s ws rs ds) × (r.low ≡ clamped_low s ws rs ds) → CreateSays s ws cs rs ds gv switches out work marks (Ok r) out' work' marks'
  create_done out' work' marks' z a b m r e = record { number = sym z; answer = rw (e.0, e.1); numbers = a; space = b; counts = m }
