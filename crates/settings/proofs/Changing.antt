-- What clear, set, get, remove and read answer and leave, in each of the ways that they end.
use mathlib.Core.Path.{◌≡◌, sym, ap, ◌∙◌}
use mathlib.Core.Bool.{true, false, ◌||◌}
use mathlib.Core.List.{List, [], ◌∷◌, ◌++◌}
use Rattle.std.specs.Prelude.{Result, Ok, Err}
use Prim.Native.Nat.{ℕ, ◌+◌, ◌*◌, ◌≤◌, ◌<◌}
use native.Mathlib.Omega.{arith}
use borrow.Author.Tests.{lt-ltb, le-ltb}
use lib.Dec.{ltb}
use lib.ListN.{length, take, drop, get_or, set, replicate, length-set, length-replicate}
use lib.Seq.{sets, length-sets, length-take-le, take-set-lt, drop-set-lt, get_or-take}
use Rattle.lists.specs.Sizes.{most_voices}
use Rattle.lists.specs.Bytes.{Bytes}
use Rattle.lists.specs.Firsts.{first_at, replaced as exchanged}
use Rattle.lists.proofs.Answers.{same, untouched, in_front, front-written}
use Rattle.lists.proofs.Regions.{sets-within, dropped_before}
use Rattle.lists.proofs.Firsts.{length-replaced}
use Rattle.settings.specs.declared.Settings.{Settings}
use Rattle.lists.specs.declared.Refusal.{Refusal}
use Rattle.lists.specs.declared.Refusal.TheVariants.{StoreFull, VoiceNotHeld}
use Rattle.lists.specs.Refusals.{number_of, or_else}
use Rattle.settings.specs.Store.{Store, store_settings, store_of, free, is_held, held_in, in_order, settings_at}
use Rattle.settings.specs.Changes.{empty, place_for, set_in, remove_in}
use Rattle.settings.specs.Format.{format_refusal, read_refusal, entries_of, read_in}
use Rattle.lists.proofs.Ends.{not_none, refused-one, answered-one, refuses, stops}
use Rattle.settings.specs.Promise.{got, store_refusal, voice_refusal, set_refusal, held_refusal, ChangesTo, ClearSays, SetSays, GetSays, RemoveSays, ReadSays}
use Rattle.settings.specs.Inner.Steps.{Gathered, full_refusal, Replaced}
use Rattle.settings.proofs.Refusing.{has_places, placed}
use Rattle.settings.proofs.Different.{file-numbers, different_voices}
use Rattle.settings.proofs.Places.{no_place, some-place}

-- ---- any of them

-- a refusal leaves both lists
pub refused_change : (d : Refusal) (k : ℕ) (new : Store) (voices settings : List ℕ) → number_of d ≡ k → ChangesTo k new voices settings (Err d) voices settings
refused_change d k new voices settings e =
    let n : k ≡ 0 → ⊥ = not_none d k e in
    record { answer = e; numbers = untouched k new.voices voices n; kept = untouched k new.settings settings n }

-- a store of 256 places stands at the front of both lists afterwards, and what lies behind it is as it was
pub changed : (k : ℕ) (new : Store) (voices settings voices' settings' : List ℕ) → k ≡ 0 → length new.voices ≡ most_voices → length new.settings ≡ store_settings
    → take most_voices voices' ≡ new.voices → drop most_voices voices' ≡ drop most_voices voices → take store_settings settings' ≡ new.settings → drop store_settings settings' ≡ drop store_settings settings
    → ChangesTo k new voices settings (Ok tt) voices' settings'
changed k new voices settings voices' settings' z l m f d g h =
    record { answer = sym z; numbers = front-written k most_voices new.voices voices voices' z l f d; kept = front-written k store_settings new.settings settings settings' z m g h }

-- two outcomes that a promise allows are equal
changes-one : (k : ℕ) (new : Store) (voices settings : List ℕ) (r s : Result (Unit {0}) Refusal) (v₁ s₁ v₂ s₂ : List ℕ) → ChangesTo k new voices settings r v₁ s₁ → ChangesTo k new voices settings s v₂ s₂ → (r ≡ s) × (v₁ ≡ v₂) × (s₁ ≡ s₂)
changes-one k new voices settings r s v₁ s₁ v₂ s₂ f g = (refused-one r s (f.answer ∙ sym g.answer), f.numbers ∙ sym g.numbers, f.kept ∙ sym g.kept)

module _ (voices settings : List ℕ) (r s : Result (Unit {0}) Refusal) (v₁ s₁ v₂ s₂ : List ℕ) where
  pub clear_one : ClearSays voices settings r v₁ s₁ → ClearSays voices settings s v₂ s₂ → (r ≡ s) × (v₁ ≡ v₂) × (s₁ ≡ s₂)
  clear_one = changes-one (store_refusal voices settings) empty voices settings r s v₁ s₁ v₂ s₂

  pub set-one : (voice : ℕ) (given : Settings) → SetSays voices settings voice given r v₁ s₁ → SetSays voices settings voice given s v₂ s₂ → (r ≡ s) × (v₁ ≡ v₂) × (s₁ ≡ s₂)
  set-one voice given = changes-one (set_refusal voice voices settings) (set_in voice given (store_of voices settings)) voices settings r s v₁ s₁ v₂ s₂

  pub remove_one : (voice : ℕ) → RemoveSays voices settings voice r v₁ s₁ → RemoveSays voices settings voice s v₂ s₂ → (r ≡ s) × (v₁ ≡ v₂) × (s₁ ≡ s₂)
  remove_one voice = changes-one (held_refusal voice voices settings) (remove_in voice (store_of voices settings)) voices settings r s v₁ s₁ v₂ s₂

  pub read_one : (bytes : List ℕ) → ReadSays voices settings bytes r v₁ s₁ → ReadSays voices settings bytes s v₂ s₂ → (r ≡ s) × (v₁ ≡ v₂) × (s₁ ≡ s₂)
  read_one bytes = changes-one (or_else (store_refusal voices settings) (read_refusal bytes)) (read_in bytes) voices settings r s v₁ s₁ v₂ s₂

-- so are answers of get with the same number and settings
abbrev made : ℕ → ℕ → ℕ → Settings
made speed weight threshold = record { speed = speed; weight = weight; threshold = threshold }

settings_of : (x y : Settings) → x.speed ≡ y.speed → x.weight ≡ y.weight → x.threshold ≡ y.threshold → x ≡ y
settings_of x y a b c = ap (λ (n : ℕ). made n x.weight x.threshold) a ∙ ap (λ (n : ℕ). made y.speed n x.threshold) b ∙ ap (λ (n : ℕ). made y.speed y.weight n) c

settings_one : (x y : Settings) → in_order x ≡ in_order y → x ≡ y
settings_one x y e =
    let a : x.speed ≡ y.speed = cc in
    let b : x.weight ≡ y.weight = cc in
    let c : x.threshold ≡ y.threshold = cc in
    settings_of x y a b c

pub got_one : (r s : Result Settings Refusal) → got r ≡ got s → r ≡ s
got_one r s e = answered-one in_order settings_one r s (same e)

pub get_one : (voices settings : List ℕ) (voice : ℕ) (r s : Result Settings Refusal) → GetSays voices settings voice r → GetSays voices settings voice s → r ≡ s
get_one voices settings voice r s f g = got_one r s (f ∙ sym g)

-- ---- clear

pub cleared : (voices settings v w : List ℕ) → store_refusal voices settings ≡ 0 → v ≡ replicate (length (take most_voices voices)) free → w ≡ replicate (length (take store_settings settings)) 0
    → ClearSays voices settings (Ok tt) (v ++ drop most_voices voices) (w ++ drop store_settings settings)
cleared voices settings v w z e f =
    let b = has_places voices settings z in
    let m : length (take most_voices voices) ≡ most_voices = length-take-le most_voices voices b.0 in
    let n : length (take store_settings settings) ≡ store_settings = length-take-le store_settings settings b.1 in
    record {
      answer = sym z;
      numbers = in_front (store_refusal voices settings) most_voices (replicate most_voices free) v voices z (rw m at e) (length-replicate most_voices free);
      kept = in_front (store_refusal voices settings) store_settings (replicate store_settings 0) w settings z (rw n at f) (length-replicate {A = ℕ} store_settings 0);
    }

-- ---- a voice that is refused for its number, or in a store that is for its lists

module _ (voice : ℕ) (voices settings : List ℕ) where
  module _ (d : Refusal) (e : number_of d ≡ voice_refusal voice voices settings) where
    pub set-refused : (given : Settings) → SetSays voices settings voice given (Err d) voices settings
    unfolding set_refusal
    set-refused given = refused_change d (set_refusal voice voices settings) _ voices settings (stops d (voice_refusal voice voices settings) _ e)

    held_first : number_of d ≡ held_refusal voice voices settings
    unfolding held_refusal
    held_first = stops d (voice_refusal voice voices settings) _ e

    pub remove_refused : RemoveSays voices settings voice (Err d) voices settings
    remove_refused = refused_change d (held_refusal voice voices settings) _ voices settings held_first

    pub get_refused : GetSays voices settings voice (Err d)
    get_refused = refuses d (held_refusal voice voices settings) _ held_first

  -- and one that isn't
  module _ (z : 0 ≡ voice_refusal voice voices settings) where
    none : voice_refusal voice voices settings ≡ 0
    none = sym z

    pub places : (most_voices ≤ length voices) × (store_settings ≤ length settings)
    places = placed voice voices settings none

    pub numbers-long : length (take most_voices voices) ≡ most_voices
    numbers-long = length-take-le most_voices voices places.0

    settings-long : length (take store_settings settings) ≡ store_settings
    settings-long = length-take-le store_settings settings places.1

    -- settings are put into a place, and nothing lies behind them in the store
    kept-front : (p : ℕ) (s : Settings) → p < most_voices → take store_settings (sets settings (3 * p) (in_order s)) ≡ sets (take store_settings settings) (3 * p) (in_order s)
    kept-front p s h = sets-within (in_order s) settings 0 store_settings (3 * p) (3 * p) (omega arith) (omega arith)

    kept-behind : (p : ℕ) (s : Settings) → p < most_voices → drop store_settings (sets settings (3 * p) (in_order s)) ≡ drop store_settings settings
    kept-behind p s h = dropped_before (in_order s) settings store_settings (3 * p) (omega arith)

    -- the place for it
    pub set_full : (given : Settings) → place_for voice (take most_voices voices) ≡ length (take most_voices voices) → SetSays voices settings voice given (Err StoreFull) voices settings
    unfolding set_refusal
    set_full given f =
        let n : is_held voice (take most_voices voices) || ltb (held_in (take most_voices voices)) most_voices ≡ false = no_place voice (take most_voices voices) most_voices numbers-long (f ∙ numbers-long) in
        refused_change StoreFull (set_refusal voice voices settings) _ voices settings (rw (none, n))

    module _ (p : ℕ) (q : p ≡ place_for voice (take most_voices voices)) (g : p < length (take most_voices voices)) where
      pub set-within : p < most_voices
      set-within = omega (arith, numbers-long)

      pub set-done : (given : Settings) (settings' : List ℕ) → settings' ≡ sets settings (3 * p) (in_order given) → SetSays voices settings voice given (Ok tt) (set voices p voice) settings'
      unfolding set_refusal set_in
      set-done given settings' s =
          let h : p < most_voices = set-within in
          let n : is_held voice (take most_voices voices) || ltb (held_in (take most_voices voices)) most_voices ≡ true = some-place voice (take most_voices voices) most_voices numbers-long (rw (← q) h) in
          changed (set_refusal voice voices settings) (set_in voice given (store_of voices settings)) voices settings (set voices p voice) settings' (rw (none, n))
          (length-set (take most_voices voices) _ voice ∙ numbers-long) (length-sets (take store_settings settings) _ (in_order given) ∙ settings-long)
          (take-set-lt most_voices voices p voice h ∙ ap (λ (k : ℕ). set (take most_voices voices) k voice) q) (drop-set-lt most_voices voices p voice h)
          (ap (take store_settings) s ∙ kept-front p given h ∙ ap (λ (k : ℕ). sets (take store_settings settings) (3 * k) (in_order given)) q) (ap (drop store_settings) s ∙ kept-behind p given h)

    -- no place holds it
    module _ (f : first_at voice (take most_voices voices) ≡ length (take most_voices voices)) where
      not-held : held_refusal voice voices settings ≡ 19
      unfolding held_refusal
      not-held = rw (none, le-ltb (first_at voice (take most_voices voices)) (length (take most_voices voices)) (omega arith))

      pub get_none : GetSays voices settings voice (Err VoiceNotHeld)
      get_none = refuses VoiceNotHeld (held_refusal voice voices settings) _ (sym not-held)

      pub remove_none : RemoveSays voices settings voice (Err VoiceNotHeld) voices settings
      remove_none = refused_change VoiceNotHeld (held_refusal voice voices settings) _ voices settings (sym not-held)

    -- the place that holds it
    module _ (p : ℕ) (q : p ≡ first_at voice (take most_voices voices)) (g : p < length (take most_voices voices)) where
      pub held-within : p < most_voices
      held-within = omega (arith, numbers-long)

      is-held : held_refusal voice voices settings ≡ 0
      unfolding held_refusal
      is-held = rw (none, lt-ltb (first_at voice (take most_voices voices)) (length (take most_voices voices)) (omega arith))

      pub get_held : (s : Settings) → s ≡ settings_at settings p → GetSays voices settings voice (Ok s)
      get_held s g =
          let h : p < most_voices = held-within in
          let a : get_or (take store_settings settings) (3 * p) 0 ≡ get_or settings (3 * p) 0 = get_or-take store_settings settings (3 * p) 0 (omega arith) in
          let b : get_or (take store_settings settings) (3 * p + 1) 0 ≡ get_or settings (3 * p + 1) 0 = get_or-take store_settings settings (3 * p + 1) 0 (omega arith) in
          let c : get_or (take store_settings settings) (3 * p + 2) 0 ≡ get_or settings (3 * p + 2) 0 = get_or-take store_settings settings (3 * p + 2) 0 (omega arith) in
          rw (is-held, ← q, a, b, c) (ap (λ (x : Settings). got (Ok x)) g)

      pub remove_done : (w settings' : List ℕ) → w ≡ exchanged voice free (take most_voices voices) → settings' ≡ sets settings (3 * p) (0 ∷ 0 ∷ 0 ∷ [])
          → RemoveSays voices settings voice (Ok tt) (w ++ drop most_voices voices) settings'
      unfolding remove_in
      remove_done w settings' v s =
          let h : p < most_voices = held-within in
          let l : length (exchanged voice free (take most_voices voices)) ≡ most_voices = length-replaced voice free (take most_voices voices) ∙ numbers-long in
          let zeros : Settings = record { speed = 0; weight = 0; threshold = 0 } in
          record {
            answer = sym is-held;
            numbers = in_front (held_refusal voice voices settings) most_voices _ w voices is-held v l;
            kept = front-written (held_refusal voice voices settings) store_settings _ settings settings' is-held (length-sets (take store_settings settings) _ (in_order zeros) ∙ settings-long)
                (ap (take store_settings) s ∙ kept-front p zeros h ∙ rw q) (ap (drop store_settings) s ∙ kept-behind p zeros h);
          }

-- ---- read

module _ (voices settings bytes : List ℕ) where
  abbrev number : ℕ
  number = or_else (store_refusal voices settings) (read_refusal bytes)

  pub read_short : (d : Refusal) → number_of d ≡ store_refusal voices settings → ReadSays voices settings bytes (Err d) voices settings
  read_short d e = refused_change d number _ voices settings (stops d (store_refusal voices settings) (read_refusal bytes) e)

  module _ (s : store_refusal voices settings ≡ 0) where
    pub read-malformed : (d : Refusal) → number_of d ≡ format_refusal bytes → ReadSays voices settings bytes (Err d) voices settings
    unfolding read_refusal
    read-malformed d e = refused_change d number _ voices settings (rw s (stops d (format_refusal bytes) _ e))

    -- the records are gathered in a store of its own
    pub not-replaced : (d : Refusal) (v w : List ℕ) → Gathered bytes (Err d) v w → Replaced voices settings bytes (Err d) voices settings
    not-replaced d v w g =
        let n : full_refusal bytes ≡ 0 → ⊥ = not_none d (full_refusal bytes) g.fits in
        record { fits = g.fits; numbers = untouched (full_refusal bytes) (read_in bytes).voices voices n; kept = untouched (full_refusal bytes) (read_in bytes).settings settings n }

    pub replaced : (v w : List ℕ) → Gathered bytes (Ok tt) v w → length v ≡ most_voices → length w ≡ store_settings → Replaced voices settings bytes (Ok tt) (v ++ drop most_voices voices) (w ++ drop store_settings settings)
    replaced v w g a b =
        let k : full_refusal bytes ≡ 0 = sym g.fits in
        record {
          fits = g.fits;
          numbers = in_front (full_refusal bytes) most_voices (read_in bytes).voices v voices k (g.numbers k) (ap length (sym (g.numbers k)) ∙ a);
          kept = in_front (full_refusal bytes) store_settings (read_in bytes).settings w settings k (g.kept k) (ap length (sym (g.kept k)) ∙ b);
        }

    pub read_replaced : Bytes bytes → format_refusal bytes ≡ 0 → (r : Result (Unit {0}) Refusal) (voices' settings' : List ℕ) → Replaced voices settings bytes r voices' settings' → ReadSays voices settings bytes r voices' settings'
    unfolding read_refusal
    read_replaced b f r voices' settings' g =
        let after : number ≡ full_refusal bytes = rw (s, f, different_voices (entries_of bytes) (file-numbers bytes b)) in
        record { answer = g.fits ∙ sym after; numbers = rw after g.numbers; kept = rw after g.kept }
