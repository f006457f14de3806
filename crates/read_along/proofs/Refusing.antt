-- When words are refused, and what is known of those that aren't.
use mathlib.Core.Path.{◌≡◌, refl, sym, ap, ◌∙◌}
use mathlib.Core.Logic.{⊎_elim, ◌≢◌}
use mathlib.Core.Bool.{Bool, true, false, cond, ◌&&◌, ◌||◌}
use mathlib.Core.List.{List}
use Prim.Native.Nat.{ℕ, ◌*◌, ◌/◌, ◌%◌, ◌^◌, ◌≤◌, ◌<◌}
use native.Mathlib.Nat.{mul_comm, mul-mod_left, div-add-mod, div-eq_of_eq-mul_left}
use native.Mathlib.Omega.{arith}
use borrow.Author.Tests.{lt-leb, le-leb, leb-true, lt-ltb, le-ltb, ltb-false, eq-eqb, ne_eqb, eqb-true}
use lib.Dec.{leb, ltb, eqb}
use lib.ListN.{length, take}
use Rattle.lists.specs.Sizes.{most_label_states, most_words}
use Rattle.lists.specs.Flags.{is_on}
use Rattle.lists.specs.Totals.{total}
use Rattle.lists.proofs.Numbers.{same_or_not}
use Rattle.std.proofs.Common.{Result, Ok, Err, is_err}
use Rattle.lists.specs.declared.Refusal.{Refusal}
use Rattle.lists.specs.Refusals.{number_of}
use Rattle.lists.specs.Ends.{refused}
use Rattle.lists.proofs.Ends.{some_number}
use Rattle.lists.proofs.Flags.{both, neither, on_true, off_zero}
use Rattle.lists.proofs.Refusals.{or_none, none_then}
use Rattle.lists.proofs.Sums.{total-whole}
use Rattle.spool.specs.Refusal.{durations_refusal, trajectory_refusal}
use Rattle.spool.specs.Refusal.Laws.{durations_0, durations_accepts, Accepted, accepts}
use Rattle.read_along.specs.Promise.{label_outside, agreeing, words_refusal, timing_refusal, at_refusal, excerpt_refusal, room_refusal}
use Rattle.read_along.specs.Inner.Steps.{Timed}

-- ---- whether labels and durations agree, by a division

divided : (labels nstate n : ℕ) → 1 ≤ nstate → eqb (n % nstate) 0 && eqb labels (n / nstate) ≡ eqb (labels * nstate) n
divided labels nstate n h = ⊎_elim
    (λ (e : labels * nstate ≡ n).
    let r : n % nstate ≡ 0 = ap (λ (m : ℕ). m % nstate) (sym e) ∙ mul-mod_left labels nstate in
    let q : labels ≡ n / nstate = sym (div-eq_of_eq-mul_left h (sym e)) in
    rw (eq-eqb (n % nstate) 0 r, eq-eqb labels (n / nstate) q, eq-eqb (labels * nstate) n e))
    (λ (d : labels * nstate ≢ n).
    (elim (eqb (n % nstate) 0) as (λ t. eqb (n % nstate) 0 ≡ t → t && eqb labels (n / nstate) ≡ eqb (labels * nstate) n) [
      | true ↦ λ g. ne_eqb labels (n / nstate) (λ q. d (ap (λ (m : ℕ). m * nstate) q ∙ omega (arith, eqb-true (n % nstate) 0 g, div-add-mod n nstate, mul_comm (n / nstate) nstate))) ∙ sym (ne_eqb (labels * nstate) n d)
      | false ↦ λ g. sym (ne_eqb (labels * nstate) n d)
    ])
    refl)
    (same_or_not (labels * nstate) n)

module _ (words : List ℕ) (nstate : ℕ) (ds : List ℕ) where
  pub too_many : most_words < length words → false ≡ agreeing words nstate ds
  too_many h = rw (lt-leb (length words) most_words h)

  module _ (few : length words ≤ most_words) (some : 1 ≤ nstate) (labels : ℕ) (e : labels ≡ total (take (2 ^ 32) words)) where
    whole : labels ≡ total words
    whole = e ∙ total-whole words (omega arith)

    pub by_division : eqb (length ds % nstate) 0 && eqb labels (length ds / nstate) ≡ agreeing words nstate ds
    by_division = rw (le-leb (length words) most_words few, ← whole) (divided labels nstate (length ds) some)

-- ---- the refusal

-- the crate below refuses where its number is another than 0
pub refusing : (below : Result (Unit {0}) Refusal) → is_err below ≡ is_on (refused below)
refusing (Ok done) = refl
refusing (Err e) = sym (on_true (number_of e) (λ z. let h = some_number e in omega arith))

module _ (below : ℕ) (words : List ℕ) (nstate : ℕ) (ds : List ℕ) where
  pub words_5 : label_outside nstate || is_on below ≡ true → 5 ≡ words_refusal below words nstate ds
  unfolding words_refusal
  words_5 h = rw h

  module _ (n : label_outside nstate || is_on below ≡ false) where
    pub words_1 : agreeing words nstate ds ≡ false → 1 ≡ words_refusal below words nstate ds
    unfolding words_refusal
    words_1 h = rw (n, h)

    pub words_0 : agreeing words nstate ds ≡ true → 0 ≡ words_refusal below words nstate ds
    unfolding words_refusal
    words_0 h = rw (n, h)

  -- nothing is refused, so each test holds
  pub record Passed : Type 0 where
    pub lower : below ≡ 0
    pub narrow : nstate ≤ most_label_states
    pub few : length words ≤ most_words
    pub agree : total words * nstate ≡ length ds

  pub passed : words_refusal below words nstate ds ≡ 0 → Passed
  unfolding words_refusal
  passed e =
      let a = or_none (cond (label_outside nstate || is_on below) 5 0) (cond (agreeing words nstate ds) 0 1) e in
      let b = neither (label_outside nstate) (is_on below) (none_fails (label_outside nstate || is_on below) a.0) in
      let c = both (leb (length words) most_words) (eqb (total words * nstate) (length ds)) (none_then (agreeing words nstate ds) 0 a.1) in
      record {
        lower = off_zero below b.1;
        narrow = ltb-false most_label_states nstate (neither (ltb nstate 1) (ltb most_label_states nstate) b.0).1;
        few = leb-true (length words) most_words c.0;
        agree = eqb-true (total words * nstate) (length ds) c.1;
      }
    where
      none_fails : (t : Bool) → ◌≡◌ {A = ℕ} (cond t 5 0) 0 → t ≡ false
      none_fails true g = absurd (omega arith)
      none_fails false g = refl

-- words of durations that the crate below accepts
pub timed : (words : List ℕ) (nstate : ℕ) (ds : List ℕ) → timing_refusal words nstate ds ≡ 0 → Timed words nstate ds
timed words nstate ds e =
    let p = passed (durations_refusal ds) words nstate ds e in
    let d = durations_accepts ds p.lower in
    record { few = p.few; narrow = p.narrow; agree = p.agree; states = d.0; short = d.1 }

-- and in no other case are they refused
pub timed_0 : (words : List ℕ) (nstate : ℕ) (ds : List ℕ) → 1 ≤ nstate → Timed words nstate ds → timing_refusal words nstate ds ≡ 0
timed_0 words nstate ds some t =
    let out : label_outside nstate ≡ false = rw (le-ltb nstate 1 some, le-ltb most_label_states nstate t.narrow) in
    let off : is_on (durations_refusal ds) ≡ false = rw (durations_0 ds t.states t.short) in
    let agrees : agreeing words nstate ds ≡ true = rw (le-leb (length words) most_words t.few, eq-eqb (total words * nstate) (length ds) t.agree) in
    sym (words_0 (durations_refusal ds) words nstate ds (rw (out, off)) agrees)

-- or of a trajectory that it accepts with them
pub timed_with : (numbers v : ℕ) (words : List ℕ) (nstate : ℕ) (ds : List ℕ) → words_refusal (trajectory_refusal numbers ds v) words nstate ds ≡ 0 → Timed words nstate ds × Accepted numbers ds v
timed_with numbers v words nstate ds e =
    let p = passed (trajectory_refusal numbers ds v) words nstate ds e in
    let a = accepts numbers ds v p.lower in
    (record { few = p.few; narrow = p.narrow; agree = p.agree; states = a.few; short = a.short }, a)

-- ---- the numbers behind these

-- a frame that is not there
module _ (words : List ℕ) (nstate : ℕ) (ds : List ℕ) (frame : ℕ) (none : timing_refusal words nstate ds ≡ 0) where
  pub at_2 : total ds ≤ frame → at_refusal words nstate ds frame ≡ 2
  at_2 h = rw (none, le-ltb frame (total ds) h)

  pub at_0 : frame < total ds → at_refusal words nstate ds frame ≡ 0
  at_0 h = rw (none, lt-ltb frame (total ds) h)

-- a word that is not there
module _ (numbers v : ℕ) (words : List ℕ) (nstate : ℕ) (ds : List ℕ) (word : ℕ) (none : words_refusal (trajectory_refusal numbers ds v) words nstate ds ≡ 0) where
  pub excerpt_2 : length words ≤ word → excerpt_refusal words nstate ds numbers v word ≡ 2
  excerpt_2 h = rw (none, le-ltb word (length words) h)

  pub excerpt_0 : word < length words → excerpt_refusal words nstate ds numbers v word ≡ 0
  excerpt_0 h = rw (none, lt-ltb word (length words) h)

-- an output that is too short, and one that isn't
module _ (first : ℕ) (answer out : List ℕ) (none : first ≡ 0) where
  pub room_4 : length out < length answer → room_refusal first answer out ≡ 4
  room_4 h = rw (none, lt-ltb (length out) (length answer) h)

  pub room_0 : length answer ≤ length out → room_refusal first answer out ≡ 0
  room_0 h = rw (none, le-ltb (length out) (length answer) h)
