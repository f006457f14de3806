-- Where words begin and end.
use mathlib.Core.Path.{◌≡◌, ap, ◌∙◌}
use mathlib.Core.List.{List, []}
use Prim.Native.Nat.{ℕ, ◌+◌, ◌*◌, ◌≤◌, ◌<◌, zero-le}
use native.Mathlib.Nat.{zero-mul, add-mul, mul-le-mul_right}
use native.Mathlib.Omega.{arith}
use lib.ListN.{length, take, get_or}
use lib.Seq.{take_all}
use Rattle.lists.specs.Totals.{total}
use Rattle.lists.proofs.Sums.{total-more, total-none, total-part, total-front}
use Rattle.read_along.specs.Words.{states_before, states_of, first_frame, own_frames}
use Rattle.read_along.specs.Inner.Steps.{Timed}

module _ (words : List ℕ) (nstate : ℕ) (ds : List ℕ) where
  -- the next word's states come behind a word's own
  pub states-next : (i : ℕ) → i < length words → states_before words nstate (i + 1) ≡ states_before words nstate i + states_of words nstate i
  states-next i h = ap (λ (n : ℕ). n * nstate) (total-more words i h) ∙ add-mul (total (take i words)) (get_or words i 0) nstate

  -- so it begins at the frame after this one's last
  pub first_next : (i : ℕ) → i < length words → first_frame words nstate ds (i + 1) ≡ first_frame words nstate ds i + own_frames words nstate ds i
  first_next i h = ap (λ (n : ℕ). total (take n ds)) (states-next i h) ∙ total-part ds (states_before words nstate i) (states_of words nstate i)

  -- the first begins at 0
  pub states-none : states_before words nstate 0 ≡ 0
  states-none = ap (λ (n : ℕ). n * nstate) (total-none [] 0 zero-le) ∙ zero-mul nstate

  pub first-none : first_frame words nstate ds 0 ≡ 0
  first-none = ap (λ (n : ℕ). total (take n ds)) states-none ∙ total-none [] 0 zero-le

  -- no word begins past the end
  pub first-within : (i : ℕ) → first_frame words nstate ds i ≤ total ds
  first-within i = total-front ds (states_before words nstate i)

  module _ (t : Timed words nstate ds) where
    pub states-within : (i : ℕ) → states_before words nstate i ≤ length ds
    states-within i = omega (arith, mul-le-mul_right nstate (total-front words i), t.agree)

    -- behind the last word there is no frame
    pub first-end : first_frame words nstate ds (length words) ≡ total ds
    first-end =
        let w : take (length words) words ≡ words = take_all (length words) words (omega arith) in
        let s : states_before words nstate (length words) ≡ length ds = ap (λ (l : List ℕ). total l * nstate) w ∙ t.agree in
        ap (λ (n : ℕ). total (take n ds)) s ∙ ap total (take_all (length ds) ds (omega arith))
