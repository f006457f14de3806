use mathlib.Core.Path.{◌≡◌, sym, ap, ◌∙◌}
use mathlib.Core.List.{List}
use Prim.Native.Nat.{ℕ, ◌+◌, ◌*◌, ◌<◌}
use native.Mathlib.Omega.{arith}
use lib.ListN.{length}
use lib.Seq.{sets, length-take-le}
use Rattle.lists.specs.Bytes.{Bytes}
use Rattle.lists.specs.Sizes.{most_voices}
use Rattle.lists.proofs.Spelled.{word_below}
use Rattle.settings.specs.declared.Settings.{Settings}
use Rattle.settings.specs.Store.{store_settings, in_order}
use Rattle.settings.specs.Format.{version_of, count_of, head_bytes, entry_bytes, settings_from}
use Rattle.settings.proofs.Refusing.{entries_fit}
use Rattle.settings.proofs.Gathering.{gathering, gathered-few, numbers-long, places-long, gather_done, gather_full, place-within, gather_next}
use Rattle.settings.proofs.file.gather.Goals as goal
use Rattle.settings.proofs.file.gather.Goals.{At-loop-i, Else-place-eq-PLACES, In-loop-i}

pub loop-i-init : goal.loop-i-init
loop-i-init c = gathering c.args.bytes.now _ _ c.requires.0 c.requires.1

-- a turn of the loop
module _ (c : In-loop-i) where
  abbrev bytes : List ℕ
  bytes = c.args.bytes.now

  abbrev i : ℕ
  i = c.loop-i.i

  abbrev size : ℕ
  size = c.entry_bytes-size.result

  each : Bytes bytes
  each j = omega (arith, c.type_inv.bytes j)

  more : i < count_of bytes
  more = omega (arith, c.little_endian-count.ensures)

  fit : head_bytes + size * i < 4294967296
  fit = entries_fit bytes c.little_endian-version.result size c.little_endian-count.result i each c.entry_bytes-size.ensures c.little_endian-count.ensures (omega arith)

  there : head_bytes + size * i ≡ head_bytes + entry_bytes (version_of bytes) * i
  there = ap (λ (v : ℕ). head_bytes + v * i) (c.entry_bytes-size.ensures ∙ ap entry_bytes c.little_endian-version.ensures)

pub overflow_mul-at : goal.overflow_mul-at
overflow_mul-at c = record { fits = omega (arith, fit (goal.at.overflow_mul-at c).In-loop-i) }

pub overflow_add-at : goal.overflow_add-at
overflow_add-at c = record { fits = omega (arith, fit (goal.at.overflow_add-at c).In-loop-i) }

pub overflow_cast-voice : goal.overflow_cast-voice
overflow_cast-voice c = let h = word_below (bytes (goal.at.overflow_cast-voice c).In-loop-i) (each (goal.at.overflow_cast-voice c).In-loop-i) (head_bytes + size (goal.at.overflow_cast-voice c).In-loop-i * i (goal.at.overflow_cast-voice c).In-loop-i) in record { fits = omega (arith, c.little_endian-voice.ensures) }

pub slice_bounds-first_u32-end : goal.slice_bounds-first_u32-end
slice_bounds-first_u32-end c = let l = c.loop-i in omega (arith, gathered-few _ _ _ _ _ l.invariant, numbers-long _ _ _ _ _ l.invariant)

pub slice_bounds-first_u32-end-in-loop-i : goal.slice_bounds-first_u32-end-in-loop-i
slice_bounds-first_u32-end-in-loop-i c = let l = c.loop-i in sym (length-take-le _ _ (omega (arith, gathered-few _ _ _ _ _ l.invariant, numbers-long _ _ _ _ _ l.invariant)))

-- the lists are as long as they were
stays : (c : At-loop-i) → (length c.loop-i.voices ≡ most_voices) × (length c.loop-i.settings ≡ store_settings)
stays c = (numbers-long _ _ _ _ _ c.loop-i.invariant, places-long _ _ _ _ _ c.loop-i.invariant)

began : (c : At-loop-i) → let a = c.args in (length a.voices.now ≡ most_voices) × (length a.settings.now ≡ store_settings)
began c = let g = gathering c.args.bytes.now _ _ c.requires.0 c.requires.1 in (numbers-long _ _ _ _ _ g, places-long _ _ _ _ _ g)

pub shape_of-voices-then-place-eq-PLACES : goal.shape_of-voices-then-place-eq-PLACES
shape_of-voices-then-place-eq-PLACES c = (stays (goal.at.shape_of-voices-then-place-eq-PLACES c).At-loop-i).0 ∙ sym (began (goal.at.shape_of-voices-then-place-eq-PLACES c).At-loop-i).0

pub shape_of-settings-then-place-eq-PLACES : goal.shape_of-settings-then-place-eq-PLACES
shape_of-settings-then-place-eq-PLACES c = (stays (goal.at.shape_of-settings-then-place-eq-PLACES c).At-loop-i).1 ∙ sym (began (goal.at.shape_of-settings-then-place-eq-PLACES c).At-loop-i).1

pub returns-then-place-eq-PLACES : goal.returns-then-place-eq-PLACES
returns-then-place-eq-PLACES c =
    gather_full (bytes (goal.at.returns-then-place-eq-PLACES c).In-loop-i) _ _ _ _ c.loop-i.invariant (more (goal.at.returns-then-place-eq-PLACES c).In-loop-i) _ _ (there (goal.at.returns-then-place-eq-PLACES c).In-loop-i) c.little_endian-voice.ensures _ c.first_u32-place.ensures c.if-place-eq-PLACES.true

abbrev in_loop_i_of_else_place_eq_places : Else-place-eq-PLACES → In-loop-i
in_loop_i_of_else_place_eq_places c = record { before = c.before.before.before.before; type_inv = record { bytes = c.type_inv.bytes } }

-- a record has a place
put : (c : Else-place-eq-PLACES) → c.first_u32-place.result < most_voices
put c =
    place-within (bytes (in_loop_i_of_else_place_eq_places c)) _ _ _ _ c.loop-i.invariant (more (in_loop_i_of_else_place_eq_places c)) _ _ (there (in_loop_i_of_else_place_eq_places c)) c.little_endian-voice.ensures _ c.first_u32-place.ensures c.if-place-eq-PLACES.false

pub bounds-voices-place : goal.bounds-voices-place
bounds-voices-place c = omega (arith, put (goal.at.bounds-voices-place c).Else-place-eq-PLACES, numbers-long _ _ _ _ _ c.loop-i.invariant)

pub settings_from-requires : goal.settings_from-requires
settings_from-requires c = omega (arith, fit (goal.at.settings_from-requires c).In-loop-i)

pub put_settings-requires : goal.put_settings-requires
put_settings-requires c = (omega (arith, put (goal.at.put_settings-requires c).Else-place-eq-PLACES, places-long _ _ _ _ _ c.loop-i.invariant), put (goal.at.put_settings-requires c).Else-place-eq-PLACES)

pub overflow_add-place : goal.overflow_add-place
overflow_add-place c = record { fits = omega (arith, put (goal.at.overflow_add-place c).Else-place-eq-PLACES) }

pub loop-i-preserved : goal.loop-i-preserved
loop-i-preserved c =
    gather_next (bytes (goal.at.loop-i-preserved c).In-loop-i) _ _ _ _ c.loop-i.invariant (more (goal.at.loop-i-preserved c).In-loop-i) _ _ (there (goal.at.loop-i-preserved c).In-loop-i) c.little_endian-voice.ensures _ c.first_u32-place.ensures (each (goal.at.loop-i-preserved c).In-loop-i) _ _ c.if-place-eq-PLACES.false
    (c.put_settings.ensures ∙ ap (λ (g : Settings). sets c.loop-i.settings (3 * c.first_u32-place.result) (in_order g)) (c.settings_from.ensures ∙ ap (λ (v : ℕ). settings_from v (bytes (goal.at.loop-i-preserved c).In-loop-i) (head_bytes + size (goal.at.loop-i-preserved c).In-loop-i * i (goal.at.loop-i-preserved c).In-loop-i)) c.little_endian-version.ensures))
    c.max-held.ensures

pub shape_of-voices : goal.shape_of-voices
shape_of-voices c = (stays (goal.at.shape_of-voices c).At-loop-i).0 ∙ sym (began (goal.at.shape_of-voices c).At-loop-i).0

pub shape_of-settings : goal.shape_of-settings
shape_of-settings c = (stays (goal.at.shape_of-settings c).At-loop-i).1 ∙ sym (began (goal.at.shape_of-settings c).At-loop-i).1

pub returns : goal.returns
returns c = gather_done _ _ _ _ _ c.loop-i.invariant (omega (arith, c.little_endian-count.ensures))

pub offset_bounds-voices-place : goal.offset_bounds-voices-place
offset_bounds-voices-place c = record { fits = omega (arith, put (goal.at.offset_bounds-voices-place c).Else-place-eq-PLACES) }
