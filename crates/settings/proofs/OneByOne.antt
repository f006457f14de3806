-- A file that is read is its records set one after the other.
use mathlib.Core.Path.{◌≡◌, refl, sym, ap, ◌∙◌, subst}
use mathlib.Core.Bool.{cond}
use mathlib.Core.Logic.{⊎_elim}
use mathlib.Core.List.{List, [], ◌∷◌, map}
use Prim.Native.Nat.{ℕ, suc, ◌≤◌, ◌<◌}
use native.Mathlib.Omega.{arith}
use borrow.Author.Tests.{lt-ltb, le-ltb}
use lib.Dec.{ltb}
use lib.ListN.{length, take, drop, take-append-drop}
use lib.Seq.{drop_at}
use Rattle.lists.specs.Sizes.{most_voices, most_voice}
use Rattle.lists.specs.Build.{fold_from}
use Rattle.lists.specs.Bytes.{Bytes}
use Rattle.lists.specs.Firsts.{first_at}
use Rattle.lists.proofs.Numbers.{le_or_lt}
use Rattle.lists.proofs.Refusals.{or_none}
use Rattle.std.specs.Prelude.{Result, Ok}
use Rattle.lists.specs.declared.Refusal.{Refusal}
use Rattle.settings.specs.Store.{Store, store_settings, store_of, Entry, held_in}
use Rattle.settings.specs.Changes.{empty, place_for}
use Rattle.settings.specs.Format.{format_refusal, entries_of, put_entry, settled, set_entry, read_refusal, read_in, voices_of}
use Rattle.settings.specs.Promise.{store_refusal, set_refusal, ClearSays, SetSays, ReadSays}
use Rattle.settings.specs.Laws.{Sets, none, set_then}
use Rattle.settings.proofs.Places.{some-place}
use Rattle.settings.proofs.Gathering.{names, Closed, none-closed, put-closed, place_is, put-long, settled-grows, voices-long, settings-long}
use Rattle.settings.proofs.Different.{Numbers, file-numbers, different_voices}
use Rattle.lists.proofs.Ends.{accepted_ok}
use Rattle.settings.proofs.Laws.{Sized, clear_sized, store_then, usable-then, numbers-then, settings-then, set-sized}

-- ---- records that are put one after the other leave a store closed up

-- a record has a place where all of them have
has_place : (got : List Entry) (x : Entry) (es : List Entry) → length (fold_from put_entry (put_entry got x) es) ≤ most_voices → first_at x.voice (names got) < most_voices
has_place got x es h = omega (arith, put-long got x, settled-grows (put_entry got x) es)

pub closed_fold : (es got : List Entry) (s : Store) → Closed got s → Numbers es → length (fold_from put_entry got es) ≤ most_voices → Closed (fold_from put_entry got es) (fold_from set_entry s es)
unfolding fold_from
closed_fold [] got s k m h = k
closed_fold (x ∷ es) got s k m h = closed_fold es (put_entry got x) (set_entry s x) (put-closed got s k x (m 0 (omega arith)) (has_place got x es h)) (λ i g. m (suc i) (omega arith)) h

-- ---- a file that is read is the fold of set over its records

pub closed-sized : (es : List Entry) (s : Store) → Closed es s → Sized s
closed-sized es s k = record { numbers = voices-long es s k; settings = settings-long es s k }

-- a record that has a place is set
is_set : (got : List Entry) (x : Entry) (voices settings : List ℕ) → Closed got (store_of voices settings) → store_refusal voices settings ≡ 0 → x.voice ≤ most_voice → first_at x.voice (names got) < most_voices → set_refusal x.voice voices settings ≡ 0
unfolding set_refusal
is_set got x voices settings k u m h =
    let vs : List ℕ = take most_voices voices in
    let p : place_for x.voice vs < most_voices = rw (place_is got (store_of voices settings) k x m h) h in
    rw (le-ltb most_voice x.voice m, u, some-place x.voice vs most_voices (voices-long got (store_of voices settings) k) p)

-- a call of set that is done: the store is then the new one, and what lies behind it as it was
record IsSet (x : Entry) (r : Result (Unit {0}) Refusal) (voices settings voices' settings' : List ℕ) : Type 0 where
  done : r ≡ Ok tt
  then : store_of voices' settings' ≡ set_entry (store_of voices settings) x
  usable : store_refusal voices' settings' ≡ 0
  numbers : drop most_voices voices' ≡ drop most_voices voices
  kept : drop store_settings settings' ≡ drop store_settings settings

set_is : (got : List Entry) (x : Entry) (r : Result (Unit {0}) Refusal) (voices settings voices' settings' : List ℕ) → Closed got (store_of voices settings) → store_refusal voices settings ≡ 0 → x.voice ≤ most_voice → first_at x.voice (names got) < most_voices
    → SetSays voices settings x.voice x.settings r voices' settings' → IsSet x r voices settings voices' settings'
set_is got x r voices settings voices' settings' k u m h c =
    let s : Store = store_of voices settings in
    let d : r ≡ Ok tt = accepted_ok r (c.answer ∙ is_set got x voices settings k u m h) in
    let e : SetSays voices settings x.voice x.settings (Ok tt) voices' settings' = subst (λ (y : Result (Unit {0}) Refusal). SetSays voices settings x.voice x.settings y voices' settings') d c in
    let p : place_for x.voice (take most_voices voices) < most_voices = rw (place_is got s k x m h) h in
    let j : Sized (set_entry s x) = set-sized s (closed-sized got s k) x.voice x.settings p in
    record {
      done = d;
      then = store_then e j;
      usable = usable-then e j;
      numbers = ap (drop most_voices) (numbers-then e j) ∙ drop_at (set_entry s x).voices (drop most_voices voices) most_voices j.numbers;
      kept = ap (drop store_settings) (settings-then e j) ∙ drop_at (set_entry s x).settings (drop store_settings settings) store_settings j.settings;
    }

-- calls of set with these records, all of them done
record AllSet (es : List Entry) (rs : List (Result (Unit {0}) Refusal)) (voices settings voices' settings' : List ℕ) : Type 0 where
  done : rs ≡ map (λ e. Ok tt) es
  then : store_of voices' settings' ≡ fold_from set_entry (store_of voices settings) es
  numbers : drop most_voices voices' ≡ drop most_voices voices
  kept : drop store_settings settings' ≡ drop store_settings settings

sets_fold : (es got : List Entry) (rs : List (Result (Unit {0}) Refusal)) (voices settings voices' settings' : List ℕ) → Closed got (store_of voices settings) → store_refusal voices settings ≡ 0 → Numbers es → length (fold_from put_entry got es) ≤ most_voices
    → Sets voices settings es rs voices' settings' → AllSet es rs voices settings voices' settings'
unfolding fold_from
sets_fold [] got rs voices settings voices' settings' k u m h none = record { done = refl; then = refl; numbers = refl; kept = refl }
sets_fold (x ∷ es) got rs voices settings voices' settings' k u m h (set_then c rest) =
    let i = set_is got x _ voices settings _ _ k u (m 0 (omega arith)) (has_place got x es h) c in
    let q = sets_fold es (put_entry got x) _ _ _ voices' settings' (rw i.then (put-closed got (store_of voices settings) k x (m 0 (omega arith)) (has_place got x es h))) i.usable (λ n g. m (suc n) (omega arith)) h rest in
    record { done = rw (i.done, q.done); then = q.then ∙ ap (λ (y : Store). fold_from set_entry y es) i.then; numbers = q.numbers ∙ i.numbers; kept = q.kept ∙ i.kept }

few_0 : (n : ℕ) → ◌≡◌ {A = ℕ} (cond (ltb most_voices n) 17 0) 0 → n ≤ most_voices
few_0 n e = ⊎_elim (λ (h : n ≤ most_voices). h) (λ (h : most_voices < n). absurd (let z : ◌≡◌ {A = ℕ} 17 0 = rw (lt-ltb most_voices n h) at e in omega arith)) (le_or_lt n most_voices)

-- what a file that is read leaves is closed up: its records, a later one in the place of an earlier of its voice
module _ (voices settings bytes : List ℕ) (b : Bytes bytes) (v₂ s₂ : List ℕ) (read : ReadSays voices settings bytes (Ok tt) v₂ s₂) where
  read-few : length (fold_from put_entry [] (entries_of bytes)) ≤ most_voices
  unfolding read_refusal settled
  read-few =
      let n : held_in (voices_of (entries_of bytes)) ≤ most_voices = few_0 (held_in (voices_of (entries_of bytes))) (or_none (format_refusal bytes) _ (or_none (store_refusal voices settings) (read_refusal bytes) (sym read.answer)).1).1 in
      let d : length (fold_from put_entry [] (entries_of bytes)) ≡ held_in (voices_of (entries_of bytes)) = different_voices (entries_of bytes) (file-numbers bytes b) in
      omega arith

  pub read-closed : Closed (settled (entries_of bytes)) (read_in bytes)
  unfolding read_in settled
  read-closed = closed_fold (entries_of bytes) [] empty none-closed (file-numbers bytes b) read-few

-- a list is its front and what lies behind it
front-back : (n : ℕ) (l m : List ℕ) → take n l ≡ take n m → drop n l ≡ drop n m → l ≡ m
front-back n l m e f = sym (take-append-drop n l) ∙ rw (e, f) (take-append-drop n m)

-- RULES, Settings: a file that is read leaves what clear and a set for each of its records leave, which are all done
module _ (voices settings bytes : List ℕ) (b : Bytes bytes) (v₀ s₀ : List ℕ) (cleared : ClearSays voices settings (Ok tt) v₀ s₀) (rs : List (Result (Unit {0}) Refusal)) (v₁ s₁ : List ℕ) (sets : Sets v₀ s₀ (entries_of bytes) rs v₁ s₁)
    (v₂ s₂ : List ℕ) (read : ReadSays voices settings bytes (Ok tt) v₂ s₂) where
  all_set : AllSet (entries_of bytes) rs v₀ s₀ v₁ s₁
  all_set = sets_fold (entries_of bytes) [] rs v₀ s₀ v₁ s₁ (rw (store_then cleared clear_sized) none-closed) (usable-then cleared clear_sized) (file-numbers bytes b) (read-few voices settings bytes b v₂ s₂ read) sets

  read-sized : Sized (read_in bytes)
  read-sized = closed-sized (settled (entries_of bytes)) (read_in bytes) (read-closed voices settings bytes b v₂ s₂ read)

  same_store : store_of v₁ s₁ ≡ read_in bytes
  unfolding read_in
  same_store = all_set.then ∙ ap (λ (y : Store). fold_from set_entry y (entries_of bytes)) (store_then cleared clear_sized)

  pub read-sets : (rs ≡ map (λ e. Ok tt) (entries_of bytes)) × (v₁ ≡ v₂) × (s₁ ≡ s₂)
  read-sets =
      let t : store_of v₂ s₂ ≡ read_in bytes = store_then read read-sized in (
        all_set.done,
        front-back most_voices v₁ v₂ (ap (λ (y : Store). y.voices) (same_store ∙ sym t))
            (all_set.numbers ∙ ap (drop most_voices) (numbers-then cleared clear_sized) ∙ drop_at empty.voices (drop most_voices voices) most_voices clear_sized.numbers ∙ sym (ap (drop most_voices) (numbers-then read read-sized) ∙ drop_at (read_in bytes).voices (drop most_voices voices) most_voices read-sized.numbers)),
        front-back store_settings s₁ s₂ (ap (λ (y : Store). y.settings) (same_store ∙ sym t))
            (all_set.kept ∙ ap (drop store_settings) (settings-then cleared clear_sized) ∙ drop_at empty.settings (drop store_settings settings) store_settings clear_sized.settings ∙ sym (ap (drop store_settings) (settings-then read read-sized) ∙ drop_at (read_in bytes).settings (drop store_settings settings) store_settings read-sized.settings)),
      )
