-- A pass over words: from where a word begins to where the next one does.
use mathlib.Core.Path.{◌≡◌, ap, ◌∙◌}
use mathlib.Core.List.{List}
use Prim.Native.Nat.{ℕ, ◌+◌, ◌-◌, ◌*◌, ◌^◌, ◌≤◌, ◌<◌}
use native.Mathlib.Nat.{add-sub_cancel_left}
use native.Mathlib.Omega.{arith}
use lib.ListN.{length, take, drop, length-take}
use Rattle.lists.specs.Totals.{total}
use Rattle.lists.specs.Sizes.{most_frames}
use Rattle.lists.proofs.Sums.{total-whole}
use Rattle.read_along.specs.declared.Start.{Start}
use Rattle.read_along.specs.Words.{states_before, states_of, first_frame, own_frames, span_of, excerpt_start, excerpt_count}
use Rattle.read_along.specs.Inner.Steps.{word_start, Timed}
use Rattle.read_along.proofs.Frames.{states-next, first_next, first-within, states-within}

module _ (words : List ℕ) (nstate : ℕ) (ds : List ℕ) (t : Timed words nstate ds) where
  -- the total of a front of them that isn't endlessly long
  front-total : (xs : List ℕ) (i : ℕ) → length xs ≤ 4294967296 → total (take (2 ^ 32) (take i xs)) ≡ total (take i xs)
  front-total xs i h = total-whole (take i xs) (simp length-take (omega arith))

  module _ (word : ℕ) (h : word < length words) where
    -- what `behind` adds up
    module _ (here : Start) (e : here ≡ word_start words nstate ds word) where
      states : here.state ≡ states_before words nstate word
      states = ap (λ (s : Start). s.state) e

      frame : here.frame ≡ first_frame words nstate ds word
      frame = ap (λ (s : Start). s.frame) e

      step-state : here.state + states_of words nstate word ≡ states_before words nstate (word + 1)
      step-state = omega (arith, states, states-next words nstate ds word h)

      pub step-within : here.state + states_of words nstate word ≤ length ds
      step-within = omega (arith, step-state, states-within words nstate ds t (word + 1))

      module _ (frames : ℕ) (f : frames ≡ total (take (2 ^ 32) (take (here.state + states_of words nstate word - here.state) (drop here.state ds)))) where
        own : frames ≡ own_frames words nstate ds word
        own =
            let n : here.state + states_of words nstate word - here.state ≡ states_of words nstate word = add-sub_cancel_left here.state (states_of words nstate word) in
            f ∙ total-whole (take (here.state + states_of words nstate word - here.state) (drop here.state ds)) (simp length-take (omega (arith, n, step-within, t.states)))
            ∙ rw (n, states)

        step-frame : here.frame + frames ≡ first_frame words nstate ds (word + 1)
        step-frame = omega (arith, own, frame, first_next words nstate ds word h)

        pub step_small : here.frame + frames ≤ most_frames
        step_small = omega (arith, step-frame, first-within words nstate ds (word + 1), t.short)

        pub stepped : record { state = here.state + states_of words nstate word; frame = here.frame + frames } ≡ word_start words nstate ds (word + 1)
        stepped = rw (step-state, step-frame)

    -- what `start_of` adds up
    module _ (labels : ℕ) (l : labels ≡ total (take (2 ^ 32) (take word words))) where
      start-state : labels * nstate ≡ states_before words nstate word
      start-state = rw (l, front-total words word (omega (arith, t.few)))

      pub start-within : labels * nstate ≤ length ds
      start-within = omega (arith, start-state, states-within words nstate ds t word)

      module _ (frame : ℕ) (f : frame ≡ total (take (2 ^ 32) (take (labels * nstate) ds))) where
        start-frame : frame ≡ first_frame words nstate ds word
        start-frame = f ∙ front-total ds (labels * nstate) (omega (arith, t.states)) ∙ ap (λ (n : ℕ). total (take n ds)) start-state

        pub start_small : frame ≤ most_frames
        start_small = omega (arith, start-frame, first-within words nstate ds word, t.short)

        pub started : record { state = labels * nstate; frame = frame } ≡ word_start words nstate ds word
        started = rw (start-state, start-frame)

-- what a word's excerpt is counted from
module _ (words : List ℕ) (nstate : ℕ) (ds : List ℕ) (word : ℕ) (h : word < length words) (first after : ℕ) (f : first ≡ first_frame words nstate ds word) (a : after ≡ first_frame words nstate ds (word + 1)) where
  ends : after ≡ first_frame words nstate ds word + own_frames words nstate ds word
  ends = a ∙ first_next words nstate ds word h

  pub part-forth : first ≤ after
  part-forth = omega (arith, ends)

  module _ (v width frames : ℕ) (w : width ≡ v) (g : frames ≡ after - first) where
    pub part-start : first * width ≡ excerpt_start v (span_of words nstate ds word)
    part-start = rw (f, w)

    pub part_count : frames * width ≡ excerpt_count v (span_of words nstate ds word)
    part_count = rw (g, f, ends, w)
