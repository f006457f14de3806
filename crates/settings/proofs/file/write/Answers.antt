use mathlib.Core.Path.{◌≡◌, sym}
use mathlib.Core.List.{List}
use Prim.Native.Nat.{ℕ, ◌≤◌}
use native.Mathlib.Omega.{arith}
use Rattle.std.proofs.lemmas.Result.{err_from_is_err_and}
use lib.ListN.{length, take}
use Rattle.lists.specs.Sizes.{most_voices}
use Rattle.settings.specs.Store.{store_settings}
use Rattle.settings.specs.Promise.{store_refusal}
use Rattle.settings.proofs.Holding.{held-few}
use Rattle.settings.proofs.Writing.{store-whole, write_short, write_small, write_done}
use Rattle.settings.proofs.file.write.Goals as goal
use Rattle.settings.proofs.file.write.Goals.{After-held-count, In_ok-check_store}

pub returns-in_err-check_store : goal.returns-in_err-check_store
returns-in_err-check_store c = let p = err_from_is_err_and c.from_residual.result c.from_residual.ensures.1 in rw (p.1, p.2) (write_short _ _ _ _ c.in_err-check_store.ensures)

abbrev voices : In_ok-check_store → List ℕ
voices c = c.args.voices.now

abbrev settings : In_ok-check_store → List ℕ
settings c = c.args.settings.now

-- the store isn't refused
none : (c : In_ok-check_store) → store_refusal (voices c) (settings c) ≡ 0
none c = sym c.in_ok-check_store.ensures

-- and has its places
whole : (c : In_ok-check_store) → (length (take most_voices (voices c)) ≡ most_voices) × (length (take store_settings (settings c)) ≡ store_settings)
whole c = store-whole (voices c) (settings c) (none c)

pub slice_bounds-store-end : goal.slice_bounds-store-end
slice_bounds-store-end c = sym (whole (goal.at.slice_bounds-store-end c).In_ok-check_store).0

pub slice_bounds-store-end-2 : goal.slice_bounds-store-end-2
slice_bounds-store-end-2 c = sym (whole (goal.at.slice_bounds-store-end-2 c).In_ok-check_store).1

-- so it is one that can be lent
pub invariant_of-store : goal.invariant_of-store
invariant_of-store c = let w = whole (goal.at.invariant_of-store c).In_ok-check_store in record { numbers = w.0; kept = w.1 }

few : (c : After-held-count) → c.held-count.result ≤ most_voices
few c = omega (arith, c.held-count.ensures, held-few c.args.voices.now)

pub returns-then-out-length : goal.returns-then-out-length
returns-then-out-length c = write_small _ _ _ (none (goal.at.returns-then-out-length c).In_ok-check_store) _ c.held-count.ensures c.if-out-length.true

pub returns : goal.returns
returns c =
    write_done _ _ _ (none (goal.at.returns c).In_ok-check_store) _ c.held-count.ensures _ _ c.if-out-length.false c.put_heading.ensures c.put_entries.ensures

pub overflow_mul-length : goal.overflow_mul-length
overflow_mul-length c = omega (arith, few (goal.at.overflow_mul-length c).After-held-count)

pub overflow_add-length : goal.overflow_add-length
overflow_add-length c = omega (arith, few (goal.at.overflow_add-length c).After-held-count)

pub overflow_cast-result : goal.overflow_cast-result
overflow_cast-result c = record { fits = omega (arith, few (goal.at.overflow_cast-result c).After-held-count) }
