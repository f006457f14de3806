use mathlib.Core.Path.{◌≡◌, sym}
use Prim.Native.Nat.{◌≤◌, ◌<◌}
use native.Mathlib.Omega.{arith}
use lib.ListN.{length, take}
use lib.Seq.{length-take-le}
use Rattle.std.proofs.lemmas.Result.{err_from_is_err_and}
use Rattle.lists.specs.Sizes.{most_voices}
use Rattle.lists.specs.declared.Refusal.TheVariants.{VoiceNotHeld}
use Rattle.lists.specs.Firsts.{first_at}
use Rattle.settings.specs.Store.{store_settings}
use Rattle.settings.proofs.Refusing.{missing}
use Rattle.settings.proofs.Places.{place-there, none-there}
use Rattle.settings.proofs.Changing.{places, get_refused, held-within, get_none, get_held}
use Rattle.settings.proofs.get.Goals as goal
use Rattle.settings.proofs.get.Goals.{In_ok-check_voice, In_ok-place}

pub returns-in_err-check_voice : goal.returns-in_err-check_voice
returns-in_err-check_voice c = let p = err_from_is_err_and c.from_residual.result c.from_residual.ensures.1 in rw (p.1, p.2) (get_refused c.args.voice c.args.voices.now c.args.settings.now _ c.in_err-check_voice.ensures)

-- the store has its places
enough : (c : In_ok-check_voice) → (most_voices ≤ length c.args.voices.now) × (store_settings ≤ length c.args.settings.now)
enough c = places c.args.voice _ _ c.in_ok-check_voice.ensures

pub slice_bounds-place_of-end : goal.slice_bounds-place_of-end
slice_bounds-place_of-end c = sym (length-take-le _ _ (enough (goal.at.slice_bounds-place_of-end c).In_ok-check_voice).0)

pub returns-in_err-place : goal.returns-in_err-place
returns-in_err-place c =
    let p = err_from_is_err_and c.from_residual-in_err-place.result c.from_residual-in_err-place.ensures.1 in
    let f = c.in_err-place.ensures in
    rw (p.1, p.2, missing c.place_of.result _ VoiceNotHeld f.value f.ok_part) (get_none c.args.voice c.args.voices.now c.args.settings.now c.in_ok-check_voice.ensures (none-there c.place_of.result _ _ f.ok_part c.place_of.ensures))

-- the place is one of the store's
found : (c : In_ok-place) → let vs = take most_voices c.args.voices.now in (c.in_ok-place.place ≡ first_at c.args.voice vs) × (c.in_ok-place.place < length vs)
found c = place-there c.place_of.result _ _ _ c.in_ok-place.ensures.ok_part c.place_of.ensures

within : (c : In_ok-place) → c.in_ok-place.place < most_voices
within c = held-within _ _ _ c.in_ok-check_voice.ensures _ (found c).0 (found c).1

pub settings_at-requires : goal.settings_at-requires
settings_at-requires c =
    let h = within (goal.at.settings_at-requires c).In_ok-place in
    (omega (arith, h, (enough (goal.at.settings_at-requires c).In_ok-check_voice).1), h)

pub returns : goal.returns
returns c = let f = found (goal.at.returns c).In_ok-place in get_held c.args.voice c.args.voices.now c.args.settings.now c.in_ok-check_voice.ensures _ f.0 f.1 _ c.settings_at.ensures
