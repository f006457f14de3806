-- A slot that was cleared, set or used.
use mathlib.Core.Path.{◌≡◌, sym, ap, ◌∙◌}
use mathlib.Core.Bool.{true, false}
use mathlib.Core.List.{List, [], ◌++◌}
use Rattle.std.proofs.Common.{Result, Ok}
use Prim.Native.Nat.{ℕ, ◌*◌, ◌≤◌, ◌<◌}
use native.Mathlib.Omega.{arith}
use borrow.Author.Tests.{le-ltb}
use lib.ListN.{length, take, drop}
use lib.Seq.{take-take, take_at}
use lib.Ieee.{Float}
use Rattle.lists.specs.Parts.{part}
use Rattle.lists.specs.Sizes.{most_windows, most_set_taps, slot_count}
use Rattle.lists.specs.Totals.{total}
use Rattle.lists.specs.declared.Refusal.{Refusal}
use Rattle.lists.specs.declared.Span.{Span}
use Rattle.lists.proofs.Answers.{same as same-answers}
use Rattle.lists.proofs.Ends.{refused-one, spanned-one}
use Rattle.lists.proofs.Regions.{cut-length}
use Rattle.model.specs.Windows.{window_refusal}
use Rattle.model.proofs.Accepted.{accepted-few, accepted-whole}
use Rattle.lists.proofs.Refusals.{or_zero}
use Rattle.houses.specs.Slots.{Table, Slot, slot_at, trimmed, widths_in, coefficients_in, is_empty}
use Rattle.houses.specs.Changes.{padded, holding, cleared, put_in}
use Rattle.houses.specs.Promise.{table_refusal, set_refusal, use_refusal, SetSays, ClearSays, UseSays}
use Rattle.houses.proofs.Whose.{own-used, own-within, may-within}
use Rattle.houses.proofs.Putting.{padded-length, long-enough, holding-sized, put-room, put_same, put-over}
use Rattle.houses.proofs.Holding.{accepted-trimmed, accepted-total, held-accepted, cleared-empty, held-widths, held-coefficients, held}
use Rattle.houses.proofs.Accepting.{done-then, at-then, ClearAccepted, clear_accepted, SetAccepted, set-accepted, UseAccepted, use_accepted}

-- ---- set of an empty slot

-- two tables that are the same but for what an empty slot has
module _ (house s : ℕ) (ws : List ℕ) (cs : List Float) {t u t' u' : Table} {r q : Result (Unit {0}) Refusal} (same : put_in s cleared t ≡ put_in s cleared u) (e : is_empty (slot_at t s) ≡ true) (f : is_empty (slot_at u s) ≡ true)
    (a : SetSays t house s ws cs r t') (b : SetSays u house s ws cs q u') where
  -- set answers the same
  pub empty-answer : r ≡ q
  unfolding set_refusal
  empty-answer =
      let room : table_refusal t ≡ table_refusal u = sym (put-room s cleared t) ∙ ap table_refusal same ∙ put-room s cleared u in
      let number : set_refusal t house s ws cs ≡ set_refusal u house s ws cs = rw (e, f, room) in
      refused-one r q (a.answer ∙ number ∙ sym b.answer)

  -- RULES, Houses: whatever an empty slot has, setting it leaves the same table
  pub empty-set : r ≡ Ok tt → t' ≡ u'
  empty-set d =
      let x : Slot = holding ws cs in
      let over : (v : Table) → put_in s x (put_in s cleared v) ≡ put_in s x v = λ v. put-over s x v (holding-sized ws cs) cleared (holding-sized [] []) in
      (done-then (rw d at a)).1 ∙ sym (over t) ∙ ap (put_in s x) same ∙ over u ∙ sym (done-then (rw (sym empty-answer ∙ d) at b)).1

-- ---- clear

module _ {t t' : Table} (house s : ℕ) (c : ClearSays t house s (Ok tt) t') where
  clear_asked : ClearAccepted t house s
  clear_asked = clear_accepted t house s (done-then c).0

  -- an accepted clear leaves the slot empty
  pub clear_then : is_empty (slot_at t' s) ≡ true
  clear_then = rw (done-then c).1 (ap is_empty (put_same s cleared t (holding-sized [] []) (own-within house s clear_asked.own) clear_asked.room) ∙ cleared-empty)

  -- and set of it is refused as its windows are
  pub clear_set : (ws : List ℕ) (cs : List Float) → set_refusal t' house s ws cs ≡ window_refusal ws cs
  unfolding set_refusal
  clear_set ws cs = rw (clear_asked.own, clear_then, (done-then c).1, put-room s cleared t, clear_asked.room) (or_zero (window_refusal ws cs))

  -- clear changes no more than what the slot has
  clear_same : put_in s cleared t' ≡ put_in s cleared t
  clear_same = ap (put_in s cleared) (done-then c).1 ∙ put-over s cleared t (holding-sized [] []) cleared (holding-sized [] [])

  -- RULES, Houses: a slot that was cleared is as one that was never set
  pub set_again : {u t'' u'' : Table} {r q : Result (Unit {0}) Refusal} (ws : List ℕ) (cs : List Float) → put_in s cleared t ≡ put_in s cleared u → is_empty (slot_at u s) ≡ true
      → SetSays t' house s ws cs r t'' → SetSays u house s ws cs q u'' → (r ≡ q) × (r ≡ Ok tt → t'' ≡ u'')
  set_again ws cs same e a b =
      let one : put_in s cleared t' ≡ put_in s cleared _ = clear_same ∙ same in
      (empty-answer house s ws cs one clear_then e a b, empty-set house s ws cs one clear_then e a b)

-- ---- set, and use of what was set

-- where a set's coefficients stand in the table
coefficients-part : (t : Table) (s : ℕ) → is_empty (slot_at t s) ≡ false → part (s * most_set_taps) (total (widths_in (slot_at t s))) t.coefficients ≡ coefficients_in (slot_at t s)
coefficients-part t s h =
    let few : total (widths_in (slot_at t s)) ≤ most_set_taps = accepted-total (widths_in (slot_at t s)) (coefficients_in (slot_at t s)) (held-accepted (slot_at t s) h) in
    sym (take-take _ most_set_taps (drop (s * most_set_taps) t.coefficients) few)

module _ {t t' : Table} (house s : ℕ) (ws : List ℕ) (cs : List Float) (c : SetSays t house s ws cs (Ok tt) t') where
  set-asked : SetAccepted t house s ws cs
  set-asked = set-accepted t house s ws cs (done-then c).0

  -- its set isn't refused, zeros or not
  set-fits : window_refusal (trimmed ws) cs ≡ 0
  set-fits = rw (accepted-trimmed ws cs set-asked.fit) set-asked.fit

  -- the slot has this set, and zeros behind it
  pub set-slot : slot_at t' s ≡ holding ws cs
  set-slot = rw (done-then c).1 (put_same s (holding ws cs) t (holding-sized ws cs) (own-within house s set-asked.own) set-asked.room)

  -- its widths
  pub set-widths : widths_in (slot_at t' s) ≡ ws
  set-widths = ap widths_in set-slot ∙ held-widths ws cs (accepted-few ws cs set-asked.fit) set-fits ∙ accepted-trimmed ws cs set-asked.fit

  -- its coefficients
  pub set-coefficients : coefficients_in (slot_at t' s) ≡ cs
  set-coefficients = ap coefficients_in set-slot ∙ held-coefficients ws cs (accepted-few ws cs set-asked.fit) set-fits

  -- and isn't empty
  pub set-held : is_empty (slot_at t' s) ≡ false
  set-held = ap is_empty set-slot ∙ held ws cs (accepted-few ws cs set-asked.fit) set-fits

  -- its coefficients are as many as its widths sum to, and stand there
  set-count : total (widths_in (slot_at t' s)) ≡ length cs
  set-count = ap total set-widths ∙ sym (accepted-whole ws cs set-asked.fit)

  pub set-part : part (s * most_set_taps) (length cs) t'.coefficients ≡ cs
  set-part = rw (← set-count) (coefficients-part t' s set-held) ∙ set-coefficients

  module _ (out out' : List ℕ) (r : Result Span Refusal) (four : most_windows ≤ length out) (u : UseSays t' house s out r out') where
    -- use isn't refused then
    use_number : use_refusal t' house s out ≡ 0
    unfolding use_refusal
    use_number = rw (own-used house s set-asked.own, set-held, (done-then c).1, put-room s (holding ws cs) t, set-asked.room, le-ltb (length out) most_windows four)

    -- and hands out the set
    pub set_use : (r ≡ Ok (record { first = s * most_set_taps; count = length cs })) × (out' ≡ padded most_windows 0 ws ++ drop most_windows out)
    set_use =
        let f : (slot_at t' s).widths ≡ padded most_windows 0 ws = ap (λ (x : Slot). x.widths) set-slot in
        (spanned-one r _ (same-answers (u.answer ∙ rw (use_number, set-count))), u.output ∙ rw (use_number, f, padded-length most_windows 0 ws))

-- ---- what use hands out

module _ {t : Table} (house s : ℕ) (p : Span) (out out' : List ℕ) (u : UseSays t house s out (Ok p) out') where
  told : (use_refusal t house s out ≡ 0) × (p.first ≡ s * most_set_taps) × (p.count ≡ total (widths_in (slot_at t s)))
  told = at-then (use_refusal t house s out) (s * most_set_taps) (total (widths_in (slot_at t s))) p u.answer

  use_asked : UseAccepted t house s out
  use_asked = use_accepted t house s out told.0

  -- a set that isn't refused
  pub used-accepted : window_refusal (widths_in (slot_at t s)) (coefficients_in (slot_at t s)) ≡ 0
  used-accepted = held-accepted (slot_at t s) use_asked.held

  -- as many coefficients as it has
  pub used-count : p.count ≡ length (coefficients_in (slot_at t s))
  used-count = told.2 ∙ sym (accepted-whole (widths_in (slot_at t s)) (coefficients_in (slot_at t s)) used-accepted)

  -- which stand there
  pub used-part : part p.first p.count t.coefficients ≡ coefficients_in (slot_at t s)
  used-part = rw (told.1, told.2) (coefficients-part t s use_asked.held)

  -- and its widths, of the four that are written
  pub used-widths : trimmed (take most_windows out') ≡ widths_in (slot_at t s)
  used-widths =
      let h : s < slot_count = may-within house s use_asked.may in
      let l : length (slot_at t s).widths ≡ most_windows = cut-length (s * most_windows) most_windows t.widths (omega (arith, long-enough t use_asked.room)) in
      ap trimmed (ap (take most_windows) u.output ∙ rw told.0 (take_at (slot_at t s).widths _ most_windows l))
