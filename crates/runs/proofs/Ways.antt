-- The ways out of the refusals of runs, and of the calls.
use mathlib.Core.Path.{◌≡◌, refl, sym, ap, ◌∙◌}
use mathlib.Core.Bool.{Bool, true, false, cond, not, ◌||◌}
use mathlib.Core.List.{List, [], ◌∷◌, ◌++◌}
use Prim.Native.Nat.{ℕ, ◌*◌, ◌^◌, ◌<◌, ◌≤◌}
use native.Mathlib.Nat.{le_of_eq}
use native.Mathlib.Omega.{arith}
use borrow.Author.Tests.{lt-ltb, le-ltb, ltb-false, eq-eqb, ne_eqb, eqb-true}
use lib.Dec.{ltb, leb, eqb}
use lib.ListN.{length, take, drop}
use lib.Ieee.{Float}
use Rattle.lists.specs.Totals.{total}
use Rattle.lists.specs.Refusals.{number_of, or_else}
use Rattle.lists.specs.Answers.{written}
use Rattle.std.proofs.Common.{Result, Ok, Err}
use Rattle.lists.specs.declared.Refusal.{Refusal}
use Rattle.lists.specs.declared.Refusal.TheVariants.{TooLittleRoom}
use Rattle.lists.proofs.Flags.{neither}
use Rattle.lists.proofs.Answers.{untouched, accepted, in_front}
use Rattle.lists.proofs.Ends.{stops, not-counted, not_none}
use Rattle.model.specs.Windows.{width_of}
use Rattle.voicing.specs.Mask.{stream_mask}
use Rattle.voicing.specs.declared.Voicing.{Voicing}
use Rattle.mlpg_adjust.specs.Trajectory.{record_size, state_size, gv_on}
use Rattle.mlpg_adjust.specs.Promise.{lengths_of, out_of_range, stream_refusal, zero_floats, zero_marks}
use Rattle.mlpg_adjust.specs.declared.Stream.{Stream}
use Rattle.mlpg_adjust.proofs.Ways.{in_range, frames_are}
use Rattle.runs.specs.declared.Run.{Run}
use Rattle.runs.specs.Runs.{runs_of, run_at, pairs_of}
use Rattle.runs.specs.Alone.{run_numbers}
use Rattle.runs.specs.Promise.{records_refusal, runs_in, runs_refusal, RunsSay, has_room, run_refusal, RunSays}
use Rattle.runs.specs.Inner.Finding.{Recorded, found_refusal}

-- ---- `runs`

module _ (v : ℕ) (masked : Bool) (windows records : ℕ) (ds : List ℕ) where
  pub refused_1 : (ltb windows 1 || ltb 4 windows) ≡ true → ◌≡◌ {A = ℕ} 1 (records_refusal v masked windows records ds)
  unfolding records_refusal
  refused_1 h = rw h

  module _ (nf : (ltb windows 1 || ltb 4 windows) ≡ false) where
    pub refused_3 : out_of_range v (length ds) ≡ true → ◌≡◌ {A = ℕ} 3 (records_refusal v masked windows records ds)
    unfolding records_refusal
    refused_3 h = rw (nf, h)

    module _ (nt : out_of_range v (length ds) ≡ false) (size : ℕ) (es : size ≡ record_size v windows masked) where
      pub refused_4 : (records ≡ length ds * size → ⊥) → ◌≡◌ {A = ℕ} 4 (records_refusal v masked windows records ds)
      unfolding records_refusal
      refused_4 h = rw (nf, nt, ← es, ne_eqb records (length ds * size) h)

      module _ (ed : records ≡ length ds * size) (n : ℕ) (en : n ≡ total (take (2 ^ 32) ds)) where
        counted : n ≡ total ds
        counted = frames_are ds n en (in_range v (length ds) nt).few

        pub refused_5 : 65536 < n → ◌≡◌ {A = ℕ} 5 (records_refusal v masked windows records ds)
        unfolding records_refusal
        refused_5 h = rw (nf, nt, ← es, eq-eqb records (length ds * size) ed, ← counted, lt-ltb 65536 n h)

        pub refused_none : n ≤ 65536 → ◌≡◌ {A = ℕ} 0 (records_refusal v masked windows records ds)
        unfolding records_refusal
        refused_none h = rw (nf, nt, ← es, eq-eqb records (length ds * size) ed, ← counted, le-ltb 65536 n h)

-- what nothing refused leaves of the lists
module _ (v : ℕ) (masked : Bool) (windows records : ℕ) (ds : List ℕ) where
  four-tests : (a b d e : Bool) → ◌≡◌ {A = ℕ} (or_else (cond a 1 0) (or_else (cond b 3 0) (or_else (cond (not d) 4 0) (cond e 5 0)))) 0 → (a ≡ false) × (b ≡ false) × (d ≡ true) × (e ≡ false)
  four-tests true b d e h = absurd (omega arith)
  four-tests false true d e h = absurd (omega arith)
  four-tests false false false e h = absurd (omega arith)
  four-tests false false true true h = absurd (omega arith)
  four-tests false false true false h = (refl, refl, refl, refl)

  module _ (z : records_refusal v masked windows records ds ≡ 0) where
    passed : ((ltb windows 1 || ltb 4 windows) ≡ false) × (out_of_range v (length ds) ≡ false) × (eqb records (length ds * record_size v windows masked) ≡ true) × (ltb 65536 (total ds) ≡ false)
    unfolding records_refusal
    passed = four-tests (ltb windows 1 || ltb 4 windows) (out_of_range v (length ds)) (eqb records (length ds * record_size v windows masked)) (ltb 65536 (total ds)) z

    pub passed-small : (v ≤ 64) × (windows ≤ 4)
    passed-small = ((in_range v (length ds) passed.1).most_v, ltb-false 4 windows (neither (ltb windows 1) (ltb 4 windows) passed.0).1)

    pub passed-recorded : (u : Voicing) → u.size ≡ record_size v windows masked → Recorded u records ds
    passed-recorded u e = record { each = rw e (le_of_eq (sym (eqb-true records (length ds * record_size v windows masked) passed.2))); frames = ltb-false 65536 (total ds) passed.3 }

pub pairs-length : (rs : List Run) → length (pairs_of rs) ≡ length rs * 2
unfolding pairs_of
pairs-length [] = refl
pairs-length (r ∷ rs) = omega (arith, pairs-length rs)

module _ (v : ℕ) (masked : Bool) (threshold : Float) (windows : ℕ) (records : List Float) (ds out : List ℕ) where
  abbrev lists : ℕ
  lists = records_refusal v masked windows (length records) ds

  abbrev found : List Run
  found = runs_of (stream_mask (record_size v windows masked) records threshold ds)

  abbrev Told : Result ℕ Refusal → List ℕ → Type 0
  Told r out' = RunsSay v masked threshold windows records ds out r out'

  abbrev why : ℕ
  why = runs_refusal v masked threshold windows records ds out

  untold : (e : Refusal) → number_of e ≡ why → Told (Err e) out
  untold e q = record { answer = not-counted e why _ q; places = untouched why _ out (not_none e why q) }

  pub lists-refused : (e : Refusal) → number_of e ≡ lists → Told (Err e) out
  unfolding runs_refusal
  lists-refused e q = untold e (stops e lists _ q)

  module _ (none : lists ≡ 0) (n : ℕ) (en : n ≡ length found) where
    pub runs-short : leb (n * 2) (length out) ≡ false → Told (Err TooLittleRoom) out
    unfolding runs_refusal runs_in
    runs-short h = untold TooLittleRoom (rw (none, ← en, h))

    pub runs-told : leb (n * 2) (length out) ≡ true → (front : List ℕ) → front ≡ pairs_of found → Told (Ok n) (front ++ drop (2 * n) out)
    unfolding runs_refusal runs_in
    runs-told h front e =
        let q : why ≡ 0 = rw (none, ← en, h) in
        let l : length (pairs_of found) ≡ 2 * n = pairs-length found ∙ omega arith in
        record { answer = accepted why (n ∷ []) _ q (rw en); places = in_front why (2 * n) (pairs_of found) front out q e l }

-- ---- `create_run`

module _ (s : Stream) (widths : List ℕ) (coefs records : List Float) (ds : List ℕ) (gv : List Float) (switches : List ℕ) (run : ℕ) (out work : List Float) (marks : List ℕ) where
  abbrev inputs : ℕ
  inputs = stream_refusal s widths coefs ds (lengths_of records gv switches [] [] [])

  abbrev mask : List Bool
  mask = stream_mask (state_size s widths) records s.threshold ds

  abbrev refusal : ℕ
  refusal = run_refusal s widths coefs records ds gv switches run out work marks

  abbrev Says : Result ℕ Refusal → List Float → List Float → List ℕ → Type 0
  Says r out' work' marks' = RunSays s widths coefs records ds gv switches run out work marks r out' work' marks'

  -- refused, nothing is touched
  still : (e : Refusal) → number_of e ≡ refusal → Says (Err e) out work marks
  still e q =
      let n : refusal ≡ 0 → ⊥ = not_none e refusal q in
      record { answer = not-counted e refusal (run_at mask run).frames q; numbers = untouched refusal _ out n; space = untouched refusal _ work n; counts = untouched refusal _ marks n }

  pub inputs-refused : (e : Refusal) → number_of e ≡ inputs → Says (Err e) out work marks
  unfolding run_refusal
  inputs-refused e q = still e (stops e inputs _ q)

  -- of a run of n frames, which is there where it has some
  module _ (none : inputs ≡ 0) (n : ℕ) (en : (run_at mask run).frames ≡ n) where
    module _ (there : ltb run (length (runs_of mask)) ≡ not (eqb n 0)) where
      found-refusal : refusal ≡ found_refusal s widths n (length out) (length work) (length marks)
      unfolding run_refusal
      found-refusal = rw (none, en, there) (ap (or_else (cond (has_room s.v n (length out) (length work) (length marks)) 0 6)) (swapped (gv_on s.gv) (eqb n 0) (cond (ltb 1 (width_of widths 0)) 22 0)))
        where
          swapped : (a b : Bool) (k : ℕ) → or_else (cond a 20 0) (or_else (cond (not b) 0 21) k) ≡ or_else (cond a 20 0) (or_else (cond b 21 0) k)
          swapped true b k = refl
          swapped false true k = refl
          swapped false false k = refl

      pub run-refused : (e : Refusal) → number_of e ≡ found_refusal s widths n (length out) (length work) (length marks) → Says (Err e) out work marks
      run-refused e q = still e (q ∙ sym found-refusal)

      pub run-done : found_refusal s widths n (length out) (length work) (length marks) ≡ 0 → (r : Run) → run_at mask run ≡ r → (out' work' : List Float) (marks' : List ℕ)
          → out' ≡ written 0 (run_numbers s widths coefs records ds r) out → work' ≡ written 0 (zero_floats r.frames) work → marks' ≡ written 0 (zero_marks r.frames) marks
          → Says (Ok n) out' work' marks'
      run-done z r e out' work' marks' a b d =
          let q : refusal ≡ 0 = found-refusal ∙ z in
          record { answer = rw (q, en); numbers = rw (q, e) a; space = rw (q, e) b; counts = rw (q, e) d }
