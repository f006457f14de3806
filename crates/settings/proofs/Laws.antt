-- The laws of a store, over what the calls promise. They hold for any content of the lists that are lent.
use mathlib.Core.Path.{◌≡◌, refl, sym, ap, ◌∙◌}
use mathlib.Core.Bool.{true, false, cond, ◌||◌}
use mathlib.Core.Logic.{⊎_elim, ◌≢◌}
use mathlib.Core.List.{List, ◌++◌}
use Prim.Native.Nat.{ℕ, zero, suc, ◌+◌, ◌*◌, ◌≤◌, ◌<◌, min}
use native.Mathlib.Omega.{arith}
use borrow.Author.Tests.{lt-ltb, le-ltb, ltb-true, ltb-false}
use lib.Dec.{ltb}
use lib.ListN.{length, take, drop, get_or, length-append, length-set, length-replicate, get_or-replicate, take-append-drop}
use lib.Seq.{length-sets, length-take-le, take_at}
use Rattle.lists.specs.Sizes.{most_voices, most_voice}
use Rattle.lists.specs.Build.{build}
use Rattle.lists.specs.Frames.{count}
use Rattle.lists.specs.Firsts.{first_at}
use Rattle.lists.proofs.Numbers.{le_or_lt, same_or_not}
use Rattle.lists.proofs.Refusals.{or_none}
use Rattle.lists.proofs.Counts.{count_most}
use Rattle.lists.proofs.Firsts.{first_is, first-none, length-replaced}
use Rattle.settings.specs.declared.Settings.{Settings}
use Rattle.std.specs.Prelude.{Result, Ok, Err}
use Rattle.lists.specs.Answers.{Answer, accepting, refusing, answer_of}
use Rattle.lists.specs.declared.Refusal.{Refusal}
use Rattle.lists.specs.declared.Refusal.TheVariants.{VoiceNotHeld}
use Rattle.settings.specs.Store.{Store, store_settings, store_of, free, is_held, held_in, holding, free_place, in_order, settings_at}
use Rattle.settings.specs.Changes.{empty, place_for, set_in, remove_in}
use Rattle.settings.specs.Laws.{Full}
use Rattle.lists.proofs.Ends.{not_none}
use Rattle.settings.proofs.Changing.{got_one}
use Rattle.settings.specs.Promise.{got, store_refusal, voice_refusal, set_refusal, held_refusal, ChangesTo, ClearSays, SetSays, GetSays, RemoveSays}
use Rattle.settings.proofs.Refusing.{placed}
use Rattle.settings.proofs.Places.{place-within, no_place, holding-long, free-place}
use Rattle.settings.proofs.Setting.{same_numbers, set_there, set_aside, put-there, put_aside, gone, left, free-next}

-- ---- the store after a change

-- a store with its places
pub record Sized (s : Store) : Type 0 where
  pub numbers : length s.voices ≡ most_voices
  pub settings : length s.settings ≡ store_settings

pub enough : (voices settings : List ℕ) → most_voices ≤ length voices → store_settings ≤ length settings → store_refusal voices settings ≡ 0
enough voices settings h g = rw (le-ltb (length voices) most_voices h, le-ltb (length settings) store_settings g)

module _ {k : ℕ} {new : Store} {voices settings voices' settings' : List ℕ} (c : ChangesTo k new voices settings (Ok tt) voices' settings') (s : Sized new) where
  none : k ≡ 0
  none = sym c.answer

  pub numbers-then : voices' ≡ new.voices ++ drop most_voices voices
  numbers-then = c.numbers ∙ rw (none, s.numbers)

  pub settings-then : settings' ≡ new.settings ++ drop store_settings settings
  settings-then = c.kept ∙ rw (none, s.settings)

  pub store_then : store_of voices' settings' ≡ new
  store_then =
      let a : take most_voices voices' ≡ new.voices = ap (take most_voices) numbers-then ∙ take_at new.voices (drop most_voices voices) most_voices s.numbers in
      let b : take store_settings settings' ≡ new.settings = ap (take store_settings) settings-then ∙ take_at new.settings (drop store_settings settings) store_settings s.settings in
      rw (a, b)

  pub usable-then : store_refusal voices' settings' ≡ 0
  usable-then = enough voices' settings' (omega (arith, ap length numbers-then, length-append new.voices (drop most_voices voices), s.numbers)) (omega (arith, ap length settings-then, length-append new.settings (drop store_settings settings), s.settings))

-- ---- what is got from a store

abbrev pub given_so : Settings → Answer
given_so s = accepting (in_order s)

abbrev pub got_in : ℕ → Store → Answer
got_in v s = answer_of (cond (is_held v s.voices) 0 19) (in_order (settings_at s.settings (first_at v s.voices)))

pub got_held : (v : ℕ) (s : Store) → first_at v s.voices < length s.voices → got_in v s ≡ accepting (in_order (settings_at s.settings (first_at v s.voices)))
got_held v s h = rw (lt-ltb (first_at v s.voices) (length s.voices) h)

pub got_none : (v : ℕ) (s : Store) → length s.voices ≤ first_at v s.voices → got_in v s ≡ refusing 19
got_none v s h = rw (le-ltb (first_at v s.voices) (length s.voices) h)

-- a voice that is where it was, with what it had
got_same : (v : ℕ) (s t : Store) → length t.voices ≡ length s.voices → first_at v t.voices ≡ first_at v s.voices
    → (first_at v s.voices < length s.voices → settings_at t.settings (first_at v s.voices) ≡ settings_at s.settings (first_at v s.voices)) → got_in v t ≡ got_in v s
got_same v s t l f g = ⊎_elim
    (λ (h : length s.voices ≤ first_at v s.voices). got_none v t (omega arith) ∙ sym (got_none v s h))
    (λ (h : first_at v s.voices < length s.voices). got_held v t (omega arith) ∙ ap given_so (ap (settings_at t.settings) f ∙ g h) ∙ sym (got_held v s h))
    (le_or_lt (length s.voices) (first_at v s.voices))

module _ (s : Store) (z : Sized s) (v : ℕ) where
  module _ (given : Settings) (h : place_for v s.voices < most_voices) where
    pub set-sized : Sized (set_in v given s)
    unfolding set_in
    set-sized = record { numbers = length-set s.voices _ v ∙ z.numbers; settings = length-sets s.settings _ (in_order given) ∙ z.settings }

    h' : place_for v s.voices < length s.voices
    h' = omega (arith, z.numbers)

    room : 3 * place_for v s.voices + 3 ≤ length s.settings
    room = omega (arith, z.settings)

    got_set : got_in v (set_in v given s) ≡ accepting (in_order given)
    unfolding set_in
    got_set =
        let t : Store = set_in v given s in
        let f : first_at v t.voices ≡ place_for v s.voices = set_there s.voices v h' in
        got_held v t (rw (f, length-set) h') ∙ ap given_so (ap (settings_at t.settings) f ∙ put-there s.settings (place_for v s.voices) given room)

    got_aside : (w : ℕ) → w ≢ v → w ≤ most_voice → got_in w (set_in v given s) ≡ got_in w s
    unfolding set_in
    got_aside w d m =
        let t : Store = set_in v given s in
        let p : ℕ = place_for v s.voices in
        let f : first_at w t.voices ≡ first_at w s.voices = set_aside s.voices v h' w d m in
        let l : length t.voices ≡ length s.voices = length-set s.voices p v in
        got_same w s t l f
        (λ g. put_aside s.settings p given room (first_at w s.voices) (λ q.
        d (sym (first_is w t.voices free (omega arith)) ∙ ap (λ (i : ℕ). get_or t.voices i free) (f ∙ q ∙ sym (set_there s.voices v h')) ∙ first_is v t.voices free (omega (arith, set_there s.voices v h')))))

  module _ (m : v ≤ most_voice) (h : first_at v s.voices < most_voices) where
    abbrev zeros : Settings
    zeros = record { speed = 0; weight = 0; threshold = 0 }

    remove_sized : Sized (remove_in v s)
    unfolding remove_in
    remove_sized = record { numbers = length-replaced v free s.voices ∙ z.numbers; settings = length-sets s.settings _ (in_order zeros) ∙ z.settings }

    got_removed : got_in v (remove_in v s) ≡ refusing 19
    unfolding remove_in
    got_removed = got_none v (remove_in v s) (omega (arith, gone s.voices v m))

    got_left : (w : ℕ) → w ≢ v → w ≤ most_voice → got_in w (remove_in v s) ≡ got_in w s
    unfolding remove_in
    got_left w d n =
        let t : Store = remove_in v s in
        got_same w s t (length-replaced v free s.voices) (left s.voices v m w d n)
        (λ g. put_aside s.settings (first_at v s.voices) zeros (omega (arith, z.settings)) (first_at w s.voices) (λ q.
        d (sym (first_is w s.voices free g) ∙ ap (λ (i : ℕ). get_or s.voices i free) q ∙ first_is v s.voices free (rw z.numbers h))))

-- ---- over the calls

-- a refused call leaves both lists
pub refused-same : (k : ℕ) (d : Refusal) (new : Store) (voices settings voices' settings' : List ℕ) → ChangesTo k new voices settings (Err d) voices' settings' → (voices' ≡ voices) × (settings' ≡ settings)
refused-same zero d new voices settings voices' settings' c = absurd (not_none d 0 c.answer refl)
refused-same (suc k) d new voices settings voices' settings' c = (c.numbers, c.kept)

module _ (voices settings : List ℕ) (v : ℕ) (e : voice_refusal v voices settings ≡ 0) where
  -- a voice that isn't refused has a number that one can have, in a store with its places
  small : v ≤ most_voice
  small = ⊎_elim
      (λ (h : v ≤ most_voice). h)
      (λ (h : most_voice < v). absurd (let z : ◌≡◌ {A = ℕ} 3 0 = rw (lt-ltb most_voice v h) at e in omega arith))
      (le_or_lt v most_voice)

  usable : store_refusal voices settings ≡ 0
  usable = (or_none (cond (ltb most_voice v) 3 0) (store_refusal voices settings) e).1

  sized : Sized (store_of voices settings)
  sized = let b = placed v voices settings e in record { numbers = length-take-le most_voices voices b.0; settings = length-take-le store_settings settings b.1 }

-- what get answers
get_is : (voices settings : List ℕ) (w : ℕ) (r : Result Settings Refusal) → w ≤ most_voice → store_refusal voices settings ≡ 0 → GetSays voices settings w r → got r ≡ got_in w (store_of voices settings)
unfolding held_refusal
get_is voices settings w r m u g = g ∙ rw (le-ltb most_voice w m, u)

get_large : (voices settings : List ℕ) (w : ℕ) (r : Result Settings Refusal) → most_voice < w → GetSays voices settings w r → got r ≡ refusing 3
unfolding held_refusal
get_large voices settings w r m g = g ∙ rw (lt-ltb most_voice w m)

-- a voice's settings are the same before and after, where they are in the stores
pub get_same : (voices settings voices' settings' : List ℕ) (w : ℕ) (r r' : Result Settings Refusal) → store_refusal voices settings ≡ 0 → store_refusal voices' settings' ≡ 0
    → (w ≤ most_voice → got_in w (store_of voices' settings') ≡ got_in w (store_of voices settings)) → GetSays voices settings w r → GetSays voices' settings' w r' → r' ≡ r
get_same voices settings voices' settings' w r r' u u' e g g' = ⊎_elim
    (λ (m : w ≤ most_voice). got_one r' r (get_is voices' settings' w r' m u' g' ∙ e m ∙ sym (get_is voices settings w r m u g)))
    (λ (m : most_voice < w). got_one r' r (get_large voices' settings' w r' m g' ∙ sym (get_large voices settings w r m g)))
    (le_or_lt w most_voice)

-- ---- clear

pub clear_sized : Sized empty
clear_sized = record { numbers = length-replicate most_voices free; settings = length-replicate {A = ℕ} store_settings 0 }

module _ (voices settings voices' settings' : List ℕ) (c : ClearSays voices settings (Ok tt) voices' settings') where
  -- get after clear
  pub get_cleared : (w : ℕ) → w ≤ most_voice → (r : Result Settings Refusal) → GetSays voices' settings' w r → r ≡ Err VoiceNotHeld
  get_cleared w m r g =
      let f : first_at w empty.voices ≡ most_voices = first-none w empty.voices free (λ j h q. let z : free ≡ w = sym (get_or-replicate most_voices j free free h) ∙ q in omega arith) in
      got_one r (Err VoiceNotHeld) (get_is voices' settings' w r m (usable-then c clear_sized) g ∙ ap (got_in w) (store_then c clear_sized) ∙ got_none w empty (omega (arith, f, clear_sized.numbers)))

  -- no voice is held
  pub none-held : held_in (take most_voices voices') ≡ 0
  unfolding holding build count
  none-held = ap (λ (s : Store). held_in s.voices) (store_then c clear_sized)

-- ---- set

module _ (voices settings : List ℕ) (v : ℕ) (given : Settings) (voices' settings' : List ℕ) (c : SetSays voices settings v given (Ok tt) voices' settings') where
  abbrev s : Store
  s = store_of voices settings

  accepted : (voice_refusal v voices settings ≡ 0) × (◌≡◌ {A = ℕ} (cond (is_held v s.voices || ltb (held_in s.voices) most_voices) 0 17) 0)
  unfolding set_refusal
  accepted = or_none (voice_refusal v voices settings) _ (sym c.answer)

  number : v ≤ most_voice
  number = small voices settings v accepted.0

  z : Sized s
  z = sized voices settings v accepted.0

  place : place_for v s.voices < most_voices
  place = ⊎_elim
      (λ (q : place_for v s.voices ≡ most_voices). absurd (let y : ◌≡◌ {A = ℕ} 17 0 = rw (no_place v s.voices most_voices z.numbers q) at accepted.1 in omega arith))
      (λ (q : place_for v s.voices ≢ most_voices). omega (arith, place-within v s.voices, z.numbers))
      (same_or_not (place_for v s.voices) most_voices)

  then : store_of voices' settings' ≡ set_in v given s
  then = store_then c (set-sized s z v given place)

  -- get after set
  pub get_set : (r : Result Settings Refusal) → GetSays voices' settings' v r → r ≡ Ok given
  get_set r g = got_one r (Ok given) (get_is voices' settings' v r number (usable-then c (set-sized s z v given place)) g ∙ ap (got_in v) then ∙ got_set s z v given place)

  -- get of another voice
  pub get_beside : (w : ℕ) → w ≢ v → (r r' : Result Settings Refusal) → GetSays voices settings w r → GetSays voices' settings' w r' → r' ≡ r
  get_beside w d r r' = get_same voices settings voices' settings' w r r' (usable voices settings v accepted.0) (usable-then c (set-sized s z v given place)) (λ m. ap (got_in w) then ∙ got_aside s z v given place w d m)

  -- where the voice is then: its own place, or the first that was free; and every other voice is where it was
  pub set-place : first_at v (take most_voices voices') ≡ place_for v (take most_voices voices)
  unfolding set_in
  set-place = ap (λ (t : Store). first_at v t.voices) then ∙ set_there s.voices v (omega (arith, place, z.numbers))

  pub others_stay : (w : ℕ) → w ≢ v → w ≤ most_voice → first_at w (take most_voices voices') ≡ first_at w (take most_voices voices)
  unfolding set_in
  others_stay w d m = ap (λ (t : Store). first_at w t.voices) then ∙ set_aside s.voices v (omega (arith, place, z.numbers)) w d m

  -- a voice that is held keeps its place, and no number changes
  pub held_stays : is_held v (take most_voices voices) ≡ true → voices' ≡ voices
  unfolding set_in
  held_stays h =
      numbers-then c (set-sized s z v given place)
      ∙ ap (λ (l : List ℕ). l ++ drop most_voices voices) (same_numbers s.voices v (omega (arith, place, z.numbers)) (ltb-true (first_at v s.voices) (length s.voices) h))
      ∙ take-append-drop most_voices voices

  -- a new voice takes the first free place
  pub new-takes : is_held v (take most_voices voices) ≡ false → first_at v (take most_voices voices') ≡ free_place (take most_voices voices)
  new-takes h = set-place ∙ sym (free-place v s.voices (ltb-false (first_at v s.voices) (length s.voices) h))

-- ---- remove

module _ (voices settings : List ℕ) (v : ℕ) (voices' settings' : List ℕ) (c : RemoveSays voices settings v (Ok tt) voices' settings') where
  abbrev t : Store
  t = store_of voices settings

  was : (voice_refusal v voices settings ≡ 0) × (◌≡◌ {A = ℕ} (cond (is_held v t.voices) 0 19) 0)
  unfolding held_refusal
  was = or_none (voice_refusal v voices settings) _ (sym c.answer)

  y : Sized t
  y = sized voices settings v was.0

  held : first_at v t.voices < most_voices
  held = ⊎_elim
      (λ (h : length t.voices ≤ first_at v t.voices). absurd (let x : ◌≡◌ {A = ℕ} 19 0 = rw (le-ltb (first_at v t.voices) (length t.voices) h) at was.1 in omega arith))
      (λ (h : first_at v t.voices < length t.voices). omega (arith, y.numbers))
      (le_or_lt (length t.voices) (first_at v t.voices))

  after : store_of voices' settings' ≡ remove_in v t
  after = store_then c (remove_sized t y v (small voices settings v was.0) held)

  -- get after remove
  pub get_removed : (r : Result Settings Refusal) → GetSays voices' settings' v r → r ≡ Err VoiceNotHeld
  get_removed r g = got_one r (Err VoiceNotHeld) (get_is voices' settings' v r (small voices settings v was.0) (usable-then c (remove_sized t y v (small voices settings v was.0) held)) g ∙ ap (got_in v) after ∙ got_removed t y v (small voices settings v was.0) held)

  -- get of another voice
  pub get_kept : (w : ℕ) → w ≢ v → (r r' : Result Settings Refusal) → GetSays voices settings w r → GetSays voices' settings' w r' → r' ≡ r
  get_kept w d r r' = get_same voices settings voices' settings' w r r' (usable voices settings v was.0) (usable-then c (remove_sized t y v (small voices settings v was.0) held)) (λ m. ap (got_in w) after ∙ got_left t y v (small voices settings v was.0) held w d m)

  -- every other voice stays where it was
  pub others-left : (w : ℕ) → w ≢ v → w ≤ most_voice → first_at w (take most_voices voices') ≡ first_at w (take most_voices voices)
  unfolding remove_in
  others-left w d m = ap (λ (x : Store). first_at w x.voices) after ∙ left t.voices v (small voices settings v was.0) w d m

  -- the place is free, so the next new voice takes it, unless an earlier one was free
  pub place-left : free_place (take most_voices voices') ≡ min (free_place (take most_voices voices)) (first_at v (take most_voices voices))
  unfolding remove_in
  place-left = ap (λ (x : Store). free_place x.voices) after ∙ free-next t.voices v (small voices settings v was.0) (omega (arith, held, y.numbers))

  -- a voice that is new and is set then stands there
  pub next-takes : (w : ℕ) (given : Settings) (voices'' settings'' : List ℕ) → SetSays voices' settings' w given (Ok tt) voices'' settings'' → is_held w (take most_voices voices') ≡ false
      → first_at w (take most_voices voices'') ≡ min (free_place (take most_voices voices)) (first_at v (take most_voices voices))
  next-takes w given voices'' settings'' d n = new-takes voices' settings' w given voices'' settings'' d n ∙ place-left

-- ---- full

module _ (voice : ℕ) (voices settings : List ℕ) where
  pub full-then : Full voice voices settings → set_refusal voice voices settings ≡ 17
  unfolding set_refusal
  full-then f = rw (le-ltb most_voice voice f.fits, enough voices settings f.numbers f.kept, f.other, le-ltb (held_in (take most_voices voices)) most_voices (omega (arith, f.all)))

  -- and with 17 for nothing else
  full : voice ≤ most_voice → most_voices ≤ length voices → store_settings ≤ length settings → ◌≡◌ {A = ℕ} (cond (is_held voice (take most_voices voices) || ltb (held_in (take most_voices voices)) most_voices) 0 17) 17 → Full voice voices settings
  full m h g e =
      let vs : List ℕ = take most_voices voices in
      let l : length vs ≡ most_voices = length-take-le most_voices voices h in
      let n : held_in vs ≤ most_voices = omega (arith, count_most (holding vs), holding-long vs) in
      (elim (is_held voice vs) as (λ b. is_held voice vs ≡ b → ◌≡◌ {A = ℕ} (cond (b || ltb (held_in vs) most_voices) 0 17) 17 → Full voice voices settings) [
        | true ↦ λ q x. absurd (omega arith)
        | false ↦ λ q x. ⊎_elim
            (λ (k : most_voices ≤ held_in vs). record { fits = m; numbers = h; kept = g; other = q; all = omega arith })
            (λ (k : held_in vs < most_voices). absurd (let y : ◌≡◌ {A = ℕ} 0 17 = rw (lt-ltb (held_in vs) most_voices k) at x in omega arith))
            (le_or_lt most_voices (held_in vs))
      ])
      refl
      e

  pub full_when : set_refusal voice voices settings ≡ 17 → Full voice voices settings
  unfolding set_refusal
  full_when e = ⊎_elim
      (λ (m : voice ≤ most_voice). ⊎_elim
      (λ (h : most_voices ≤ length voices). ⊎_elim
      (λ (g : store_settings ≤ length settings). full m h g (rw (le-ltb most_voice voice m, enough voices settings h g) at e))
      (λ (g : length settings < store_settings). absurd (let y : ◌≡◌ {A = ℕ} 6 17 = rw (le-ltb most_voice voice m, le-ltb (length voices) most_voices h, lt-ltb (length settings) store_settings g) at e in omega arith))
      (le_or_lt store_settings (length settings)))
      (λ (h : length voices < most_voices). absurd (let y : ◌≡◌ {A = ℕ} 6 17 = rw (le-ltb most_voice voice m, lt-ltb (length voices) most_voices h) at e in omega arith))
      (le_or_lt most_voices (length voices)))
      (λ (m : most_voice < voice). absurd (let y : ◌≡◌ {A = ℕ} 3 17 = rw (lt-ltb most_voice voice m) at e in omega arith))
      (le_or_lt voice most_voice)
