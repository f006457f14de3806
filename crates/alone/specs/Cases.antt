-- RULES, One run alone: worked cases, computed from the definitions. Windows (1) and (-0.5, 0, 0.5), one component, three states of one frame each, the second unvoiced: two runs.
use Rattle.std.specs.Prelude.{None, ◌≡◌, refl, true, List, [], ◌∷◌, ◌++◌, map, ℕ, zero, suc, ◌<◌, T, length, Float}
use Rattle.std.proofs.Common.{arith}
use Rattle.std.specs.Float.Ieee.Scale.{finite}
use Rattle.std.specs.Float.{binary64}
use Rattle.std.specs.Float.Ieee.{of_bits, to_bits, lt, eq, add, sub, mul, div}
use Rattle.floats.specs.Numbers.{one}
use Rattle.floats.specs.Order.{abs_of}
use Rattle.floats.specs.Signs.{nonzero}
use Rattle.model.specs.Pair.{ivar_of}
use Rattle.model.specs.Record.{from_linear}
use Rattle.model.specs.Windows.{longest}
use Rattle.lists.specs.Frames as frames
use Rattle.voicing.specs.Mask.{mask_of, weights_of}
use Rattle.region.specs.Rows.{elem}
use Rattle.solve.specs.Solve.{solution}
use Rattle.mlpg_adjust.specs.Trajectory.{numbers_of}
use Rattle.mlpg_adjust.specs.declared.Stream.{Stream}
use Rattle.runs.specs.Runs.{runs_from}
use Rattle.runs.specs.Alone.{of_run, frame_means, run_matrix, run_side, run_numbers}
use Rattle.alone.specs.Premise.{divisor}
use Rattle.alone.specs.Claim.{count, run, Premise}

abbrev f : ℕ → Float
f b = of_bits binary64 b

abbrev stream : Stream
stream = record { v = 1; masked = true; threshold = f 0; fill = f 0; gv = None }

abbrev taps : List Float
taps = one ∷ f 0xbfe0_0000_0000_0000 ∷ f 0 ∷ f 0x3fe0_0000_0000_0000 ∷ []

-- a record: the first window's mean and variance, all else 1, and a weight
abbrev state : Float → Float → Float → List Float
state mean vari weight = mean ∷ one ∷ vari ∷ one ∷ weight ∷ []

-- the first run has this mean and variance, the second 1 and 1
abbrev records : Float → Float → List Float
records mean vari = state mean vari one ++ (state one one (f 0) ++ state one one one)

-- the bits of run k alone, and of the full trajectory
abbrev alone : List Float → ℕ → List ℕ
alone rs k = map (to_bits binary64) (run_numbers stream (1 ∷ 3 ∷ []) taps rs (1 ∷ 1 ∷ 1 ∷ []) (run stream (1 ∷ 3 ∷ []) taps rs (1 ∷ 1 ∷ 1 ∷ []) k))

abbrev full : List Float → List ℕ
full rs = map (to_bits binary64) (numbers_of stream (1 ∷ 3 ∷ []) taps rs (1 ∷ 1 ∷ 1 ∷ []) [] [])

-- ---- a zero of another sign: the first mean is 0 and its variance -1. Alone it is -0, and in the full trajectory +0
pub sign_alone : alone (records (f 0) (f 0xbff0_0000_0000_0000)) 0 ≡ 0x8000_0000_0000_0000 ∷ []
unfolding runs_from run_numbers frames.count mask_of weights_of lt of_bits from_linear longest to_bits eq add sub mul ivar_of abs_of div
sign_alone = refl

pub sign_full : full (records (f 0) (f 0xbff0_0000_0000_0000)) ≡ 0 ∷ 0 ∷ 0x3ff0_0000_0000_0000 ∷ []
unfolding numbers_of frames.count mask_of weights_of lt of_bits from_linear longest to_bits eq add sub mul ivar_of abs_of div
sign_full = refl

-- and the stream is inside the premise, so the claim is about it
abbrev signed : List Float
signed = records (f 0) (f 0xbff0_0000_0000_0000)

abbrev means : ℕ → ℕ → ℕ → List Float
means k component i = of_run (run stream (1 ∷ 3 ∷ []) taps signed (1 ∷ 1 ∷ 1 ∷ []) k) (frame_means 5 signed (f 0) (1 ∷ 1 ∷ 1 ∷ []) 1 (1 ∷ 3 ∷ []) component i)

abbrev rows : ℕ → ℕ → List Float
rows k component = run_matrix 5 signed (f 0) (1 ∷ 1 ∷ 1 ∷ []) 1 (1 ∷ 3 ∷ []) component taps (run stream (1 ∷ 3 ∷ []) taps signed (1 ∷ 1 ∷ 1 ∷ []) k)

abbrev right : ℕ → ℕ → List Float
right k component = run_side 5 signed (f 0) (1 ∷ 1 ∷ 1 ∷ []) 1 (1 ∷ 3 ∷ []) component taps (run stream (1 ∷ 3 ∷ []) taps signed (1 ∷ 1 ∷ 1 ∷ []) k)

two_runs : count stream (1 ∷ 3 ∷ []) taps signed (1 ∷ 1 ∷ 1 ∷ []) ≡ 2
unfolding runs_from mask_of weights_of lt of_bits from_linear
two_runs = refl

one-frame : (k : ℕ) → k < 2 → ((run stream (1 ∷ 3 ∷ []) taps signed (1 ∷ 1 ∷ 1 ∷ []) k).frames ≡ 1) × (length (right k 0) ≡ 1)
unfolding runs_from run_side mask_of weights_of lt of_bits from_linear
one-frame zero h = (refl, refl)
one-frame (suc zero) h = (refl, refl)
one-frame (suc (suc k)) h = absurd (omega arith)

finite-means : (k i : ℕ) → k < 2 → i < 2 → T (finite (elem (means k 0 i) 0))
unfolding runs_from frame_means mask_of weights_of lt of_bits from_linear
finite-means zero zero h l = tt
finite-means zero (suc zero) h l = tt
finite-means (suc zero) zero h l = tt
finite-means (suc zero) (suc zero) h l = tt
finite-means zero (suc (suc i)) h l = absurd (omega arith)
finite-means (suc zero) (suc (suc i)) h l = absurd (omega arith)
finite-means (suc (suc k)) i h l = absurd (omega arith)

solved : (k : ℕ) → k < 2 → T (finite (divisor 3 (rows k 0) (right k 0) 0)) × T (nonzero (divisor 3 (rows k 0) (right k 0) 0)) × T (finite (elem (solution 3 (rows k 0) (right k 0)) 0))
unfolding runs_from run_matrix run_side solution frames.count mask_of weights_of lt of_bits from_linear longest eq add sub mul ivar_of abs_of div
solved zero h = (tt, tt, tt)
solved (suc zero) h = (tt, tt, tt)
solved (suc (suc k)) h = absurd (omega arith)

pub sign_inside : Premise stream (1 ∷ 3 ∷ []) taps signed (1 ∷ 1 ∷ 1 ∷ [])
unfolding longest
sign_inside = record {
  means = λ k component i u h b l m.
      let k-below : k < 2 = omega (arith, two_runs) in
      let c : component ≡ 0 = omega arith in
      let e : u ≡ 0 = omega (arith, (one-frame k k-below).0) in
      rw (c, e) (finite-means k i k-below l);
  sound = λ k component h b.
      let k-below : k < 2 = omega (arith, two_runs) in
      let c : component ≡ 0 = omega arith in
      rw c (record {
        finite_divisors = λ t l. let e : t ≡ 0 = omega (arith, (one-frame k k-below).1) in rw e (solved k k-below).0;
        divisors = λ t l. let e : t ≡ 0 = omega (arith, (one-frame k k-below).1) in rw e (solved k k-below).1;
        values = λ t l. let e : t ≡ 0 = omega (arith, (one-frame k k-below).1) in rw e (solved k k-below).2;
      });
}

-- ---- outside the premise: the first variance is 1e20, its inverse and so the divisor 0. The second run is 1 alone, and NaN in the full trajectory
pub outside_alone : alone (records one (f 0x4415_af1d_78b5_8c40)) 1 ≡ 0x3ff0_0000_0000_0000 ∷ []
unfolding runs_from run_numbers frames.count mask_of weights_of lt of_bits from_linear longest to_bits eq add sub mul ivar_of abs_of div
outside_alone = refl

pub outside-full : full (records one (f 0x4415_af1d_78b5_8c40)) ≡ 0x7ff8_0000_0000_0000 ∷ 0 ∷ 0x7ff8_0000_0000_0000 ∷ []
unfolding numbers_of frames.count mask_of weights_of lt of_bits from_linear longest to_bits eq add sub mul ivar_of abs_of div
outside-full = refl
