use mathlib.Core.Path.{◌≡◌, sym}
use Prim.Native.Nat.{◌≤◌, ◌<◌}
use native.Mathlib.Omega.{arith}
use lib.ListN.{length, take}
use lib.Seq.{length-take-le}
use Rattle.std.proofs.lemmas.Result.{err_from_is_err_and}
use Rattle.lists.specs.Sizes.{most_voices}
use Rattle.lists.specs.declared.Refusal.TheVariants.{VoiceNotHeld}
use Rattle.lists.specs.Firsts.{first_at}
use Rattle.settings.specs.Store.{store_settings}
use Rattle.settings.proofs.Refusing.{missing}
use Rattle.settings.proofs.Places.{place-there, none-there}
use Rattle.settings.proofs.Changing.{places, remove_refused, held-within, remove_none, remove_done}
use Rattle.settings.proofs.remove.Goals as goal
use Rattle.settings.proofs.remove.Goals.{In_ok-check_voice, In_ok-place}

pub returns-in_err-check_voice : goal.returns-in_err-check_voice
returns-in_err-check_voice c = let p = err_from_is_err_and c.from_residual.result c.from_residual.ensures.1 in rw (p.1, p.2) (remove_refused _ _ _ _ c.in_err-check_voice.ensures)

-- the store has its places
enough : (c : In_ok-check_voice) → (most_voices ≤ length c.args.voices.now) × (store_settings ≤ length c.args.settings.now)
enough c = places c.args.voice _ _ c.in_ok-check_voice.ensures

pub slice_bounds-place_of-end-2 : goal.slice_bounds-place_of-end-2
slice_bounds-place_of-end-2 c = sym (length-take-le _ _ (enough (goal.at.slice_bounds-place_of-end-2 c).In_ok-check_voice).0)

pub returns-in_err-place : goal.returns-in_err-place
returns-in_err-place c =
    let p = err_from_is_err_and c.from_residual-in_err-place.result c.from_residual-in_err-place.ensures.1 in
    let f = c.in_err-place.ensures in
    rw (p.1, p.2, missing c.place_of.result _ VoiceNotHeld f.value f.ok_part) (remove_none _ _ _ c.in_ok-check_voice.ensures (none-there c.place_of.result _ _ f.ok_part c.place_of.ensures))

pub slice_bounds-replace_u32-end-2 : goal.slice_bounds-replace_u32-end-2
slice_bounds-replace_u32-end-2 c = sym (length-take-le _ _ (enough (goal.at.slice_bounds-replace_u32-end-2 c).In_ok-check_voice).0)

-- the place is one of the store's
found : (c : In_ok-place) → let vs = take most_voices c.args.voices.now in (c.in_ok-place.place ≡ first_at c.args.voice vs) × (c.in_ok-place.place < length vs)
found c = place-there c.place_of.result _ _ _ c.in_ok-place.ensures.ok_part c.place_of.ensures

within : (c : In_ok-place) → c.in_ok-place.place < most_voices
within c = held-within _ _ _ c.in_ok-check_voice.ensures _ (found c).0 (found c).1

pub put_settings-requires : goal.put_settings-requires
put_settings-requires c =
    let h = within (goal.at.put_settings-requires c).In_ok-place in
    (omega (arith, h, (enough (goal.at.put_settings-requires c).In_ok-check_voice).1), h)

pub returns : goal.returns
returns c = let f = found (goal.at.returns c).In_ok-place in remove_done _ _ _ c.in_ok-check_voice.ensures _ f.0 f.1 _ _ c.replace_u32.ensures c.put_settings.ensures
