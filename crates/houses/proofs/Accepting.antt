-- What an accepted call asks, and leaves.
use mathlib.Core.Path.{◌≡◌, refl, ◌∙◌}
use mathlib.Core.Bool.{true, false}
use mathlib.Core.List.{List, [], ◌∷◌}
use Rattle.std.proofs.Common.{Ok}
use Prim.Native.Nat.{ℕ, ◌*◌, ◌≤◌}
use borrow.Author.Tests.{leb-true, eqb-true, ltb-false}
use lib.ListN.{length}
use lib.Ieee.{Float}
use Rattle.lists.specs.Build.{build}
use Rattle.lists.specs.Sizes.{most_windows, most_common}
use Rattle.lists.specs.Totals.{total}
use Rattle.lists.specs.Answers.{answer_of}
use Rattle.lists.specs.Ends.{spanned}
use Rattle.lists.specs.declared.Span.{Span}
use Rattle.lists.proofs.Answers.{accepted_is}
use Rattle.lists.proofs.Flags.{both}
use Rattle.lists.proofs.Refusals.{none_then, then-none, or_none}
use Rattle.model.specs.Windows.{all_of, all_finite, window_refusal}
use Rattle.lists.proofs.Ends.{done_none}
use Rattle.houses.specs.Slots.{Table, slot_at, is_empty, owns, may_use}
use Rattle.houses.specs.Changes.{row_length, row_of}
use Rattle.houses.specs.Promise.{table_refusal, set_refusal, clear_refusal, use_refusal, start_refusal, row_fits, ChangesTo}

-- ---- answers

-- a call that is done isn't refused, and leaves what it is to leave
pub done-then : {k : ℕ} {new t t' : Table} → ChangesTo k new t (Ok tt) t' → (k ≡ 0) × (t' ≡ new)
done-then {k} c = let e = done_none k c.answer in (e, c.left ∙ rw e)

-- nor is one that says where a set is
pub at-then : (k a b : ℕ) (p : Span) → spanned (Ok p) ≡ answer_of k (a ∷ b ∷ []) → (k ≡ 0) × (p.first ≡ a) × (p.count ≡ b)
at-then k a b p e =
    let (z, v) = accepted_is _ k _ e refl in
    (z, cc, cc)

-- ---- refusals: none is left of those that a call asks for

-- of start
pub record StartAccepted (t : Table) (common : ℕ) (ws : List ℕ) (cs : List Float) : Type 0 where
  pub few : common ≤ most_common
  pub narrow : row_length common ws ≤ most_windows
  pub fit : all_of row_fits (build (row_of (row_length common ws) ws) common) ≡ true
  pub finite : all_finite cs ≡ true
  pub rows : common * row_length common ws ≡ length ws
  pub taps : length cs ≡ total ws
  pub room : table_refusal t ≡ 0

pub start-accepted : (t : Table) (common : ℕ) (ws : List ℕ) (cs : List Float) → start_refusal t common ws cs ≡ 0 → StartAccepted t common ws cs
unfolding start_refusal
start-accepted t common ws cs e =
    let (a, f) = or_none _ _ e in
    let (b, g) = or_none _ _ f in
    let (c, h) = or_none _ _ g in
    let (d, i) = or_none _ _ h in
    let (n, m) = both _ _ (none_then _ 0 b) in
    let (r, l) = both _ _ (none_then _ 3 d) in
    record {
      few = leb-true common most_common (none_then _ 22 a);
      narrow = leb-true (row_length common ws) most_windows n;
      fit = m;
      finite = none_then _ 1 c;
      rows = eqb-true _ _ r;
      taps = eqb-true _ _ l;
      room = i;
    }

-- of set
pub record SetAccepted (t : Table) (house s : ℕ) (ws : List ℕ) (cs : List Float) : Type 0 where
  pub own : owns house s ≡ true
  pub free : is_empty (slot_at t s) ≡ true
  pub fit : window_refusal ws cs ≡ 0
  pub room : table_refusal t ≡ 0

pub set-accepted : (t : Table) (house s : ℕ) (ws : List ℕ) (cs : List Float) → set_refusal t house s ws cs ≡ 0 → SetAccepted t house s ws cs
unfolding set_refusal
set-accepted t house s ws cs e =
    let (a, f) = or_none _ _ e in
    let (b, g) = or_none _ _ f in
    let (c, d) = or_none _ _ g in
    record { own = none_then _ 22 a; free = none_then _ 24 b; fit = c; room = d }

-- of clear
pub record ClearAccepted (t : Table) (house s : ℕ) : Type 0 where
  pub own : owns house s ≡ true
  pub held : is_empty (slot_at t s) ≡ false
  pub room : table_refusal t ≡ 0

pub clear_accepted : (t : Table) (house s : ℕ) → clear_refusal t house s ≡ 0 → ClearAccepted t house s
unfolding clear_refusal
clear_accepted t house s e =
    let (a, f) = or_none _ _ e in
    let (b, c) = or_none _ _ f in
    record { own = none_then _ 22 a; held = then-none _ 23 b; room = c }

-- of use
pub record UseAccepted (t : Table) (house s : ℕ) (out : List ℕ) : Type 0 where
  pub may : may_use house s ≡ true
  pub held : is_empty (slot_at t s) ≡ false
  pub room : table_refusal t ≡ 0
  pub places : most_windows ≤ length out

pub use_accepted : (t : Table) (house s : ℕ) (out : List ℕ) → use_refusal t house s out ≡ 0 → UseAccepted t house s out
unfolding use_refusal
use_accepted t house s out e =
    let (a, f) = or_none _ _ e in
    let (b, g) = or_none _ _ f in
    let (c, d) = or_none _ _ g in
    record { may = none_then _ 22 a; held = then-none _ 23 b; room = c; places = ltb-false (length out) most_windows (then-none _ 5 d) }
