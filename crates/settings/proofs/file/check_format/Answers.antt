use mathlib.Core.Path.{sym, ◌∙◌}
use native.Mathlib.Omega.{arith}
use Prim.Native.Nat.{◌+◌, ◌*◌, ◌<◌}
use borrow.Author.Tests.{not-true, not-false}
use Rattle.lists.specs.Bytes.{Bytes}
use Rattle.settings.proofs.Refusing.{not_marked, ends_early, unknown, other_length, well_formed, entries_fit}
use Rattle.std.proofs.Common.{ap}
use Rattle.std.proofs.Common.{not}
use Rattle.settings.proofs.file.check_format.Goals as goal
use Rattle.settings.proofs.file.check_format.Goals.{After-entry_bytes}

pub returns-then-not-starts_with : goal.returns-then-not-starts_with
returns-then-not-starts_with c = not_marked _ (sym c.starts_with.ensures ∙ not-true _ (ap not c.if-not-starts_with.true))

pub returns-then-bytes-lt5 : goal.returns-then-bytes-lt5
returns-then-bytes-lt5 c = ends_early _ (sym c.starts_with.ensures ∙ not-false _ (ap not c.if-not-starts_with.false)) c.if-bytes-lt5.true

pub returns-then-not-version : goal.returns-then-not-version
returns-then-not-version c =
    unknown _ (sym c.starts_with.ensures ∙ not-false _ (ap not c.if-not-starts_with.false)) c.if-bytes-lt5.false _ c.little_endian-version.ensures (not-true _ (ap not c.if-not-version.true))

-- each number is a byte
bytes : (c : After-entry_bytes) → Bytes c.args.bytes.now
bytes c i = omega (arith, c.type_inv.bytes i)

-- the records lie within 32 bits
fit : (c : After-entry_bytes) → 7 + c.entry_bytes.result * c.little_endian-count.result < 4294967296
fit c =
    entries_fit c.args.bytes.now c.little_endian-version.result _ _ c.little_endian-count.result (bytes c) c.entry_bytes.ensures c.little_endian-count.ensures (omega arith)

pub overflow_mul-entry_bytes : goal.overflow_mul-entry_bytes
overflow_mul-entry_bytes c = record { fits = omega (arith, fit (goal.at.overflow_mul-entry_bytes c).After-entry_bytes) }

pub overflow_add-entry_bytes : goal.overflow_add-entry_bytes
overflow_add-entry_bytes c = record { fits = omega (arith, fit (goal.at.overflow_add-entry_bytes c).After-entry_bytes) }

pub returns-then-bytes-entry_bytes : goal.returns-then-bytes-entry_bytes
returns-then-bytes-entry_bytes c =
    other_length _ (sym c.starts_with.ensures ∙ not-false _ (ap not c.if-not-starts_with.false)) c.if-bytes-lt5.false _ c.little_endian-version.ensures (not-false _ (ap not c.if-not-version.false)) _ _ c.entry_bytes.ensures c.little_endian-count.ensures c.if-bytes-entry_bytes.true

pub returns : goal.returns
returns c =
    well_formed _ (sym c.starts_with.ensures ∙ not-false _ (ap not c.if-not-starts_with.false)) c.if-bytes-lt5.false _ c.little_endian-version.ensures (not-false _ (ap not c.if-not-version.false)) _ _ c.entry_bytes.ensures c.little_endian-count.ensures c.if-bytes-entry_bytes.false
