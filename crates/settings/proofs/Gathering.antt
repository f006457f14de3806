-- Records that are set one after the other in a clear store: its voices stand closed up at its front.
use mathlib.Core.Path.{◌≡◌, refl, sym, ap, ◌∙◌}
use mathlib.Core.Bool.{true, false}
use mathlib.Core.Logic.{⊎_elim}
use mathlib.Core.List.{List, [], ◌∷◌, ◌++◌, map, flatten, append_assoc}
use Prim.Native.Nat.{ℕ, zero, suc, ◌+◌, ◌-◌, ◌*◌, ◌≤◌, ◌<◌, max, zero-le}
use native.Mathlib.Numerals.{add-one}
use native.Mathlib.Omega.{arith}
use borrow.Author.Tests.{le-leb, lt-ltb, le-ltb, eq-eqb}
use lib.ListN.{length, take, drop, get_or, set, replicate, length-append, length-drop, length-map, length-replicate, get_or-replicate, take-append-drop, drop_of_length-le, get_or-append}
use lib.Seq.{sets, take_all, take_at, take-suc, length-take-le, get_or-append-add, set_at}
use Rattle.lists.specs.Sizes.{most_voices, most_voice}
use Rattle.lists.specs.Build.{fold_from}
use Rattle.lists.specs.Bytes.{Bytes, word_at}
use Rattle.lists.specs.Firsts.{first_at}
use Rattle.lists.proofs.Numbers.{le_or_lt}
use Rattle.lists.proofs.Fills.{build-length}
use Rattle.lists.proofs.Builds.{build-at, fold_append}
use Rattle.lists.proofs.Stores.{sets-past-first}
use Rattle.lists.proofs.Spelled.{word_below}
use Rattle.lists.proofs.Firsts.{first-within, first_is, first-none, first-left, first-right}
use Rattle.std.specs.Prelude.{Ok, Err}
use Rattle.lists.specs.declared.Refusal.TheVariants.{StoreFull}
use Rattle.settings.specs.declared.Settings.{Settings}
use Rattle.settings.specs.Store.{Store, store_settings, store, free, holds_at, free_place, holding, in_order, Entry}
use Rattle.settings.specs.Changes.{empty, place_for, set_in}
use Rattle.settings.specs.Format.{count_of, version_of, head_bytes, entry_bytes, settings_from, entry_at, entries_of, put_entry, settled, set_entry, read_in, voices_of}
use Rattle.settings.specs.Inner.Steps.{Gathered, full_refusal}
use Rattle.settings.proofs.Places.{off_at, holding-long, holding-at, own-place, free-place}

-- the voices of records, and their settings one after the other
abbrev pub names : List Entry → List ℕ
names = voices_of

unfoldable pub all : List Entry → List ℕ
all es = flatten (map (λ (e : Entry). in_order e.settings) es)

-- a store that holds these records, one for each voice, from its first place on, and nothing else
pub record Closed (es : List Entry) (s : Store) : Type 0 where
  pub few : length es ≤ most_voices
  pub numbers : s.voices ≡ names es ++ replicate (most_voices - length es) free
  pub kept : s.settings ≡ all es ++ replicate (store_settings - 3 * length es) 0
  pub each : (j : ℕ) → j < length es → get_or (names es) j free ≤ most_voice
  pub once : (j : ℕ) → j < length es → first_at (get_or (names es) j free) (names es) ≡ j

pub none-closed : Closed [] empty
unfolding all flatten
none-closed = record { few = zero-le; numbers = refl; kept = refl; each = λ j h. absurd (omega arith); once = λ j h. absurd (omega arith) }

pub names-long : (es : List Entry) → length (names es) ≡ length es
names-long es = length-map es (λ (e : Entry). e.voice)

pub all-long : (es : List Entry) → length (all es) ≡ 3 * length es
unfolding all flatten
all-long [] = refl
all-long (e ∷ es) = omega (arith, all-long es)

-- ---- a record is put

set_own : (l : List ℕ) (i x z : ℕ) → i < length l → get_or l i z ≡ x → set l i x ≡ l
set_own [] i x z h e = refl
set_own (y ∷ l) zero x z h e = rw e
set_own (y ∷ l) (suc i) x z h e = ap (λ (k : List ℕ). y ∷ k) (set_own l i x z (omega arith) e)

-- instead of the one of its voice
pub names-put : (es : List Entry) (e : Entry) (p : ℕ) → p < length es → get_or (names es) p free ≡ e.voice → names (take p es ++ (e ∷ drop (suc p) es)) ≡ names es
names-put [] e p h q = absurd (omega arith)
names-put (x ∷ es) e zero h q = ap (λ (v : ℕ). v ∷ names es) (sym q)
names-put (x ∷ es) e (suc p) h q = ap (λ (l : List ℕ). x.voice ∷ l) (names-put es e p (omega arith) q)

pub three-more : (p : ℕ) → 3 * suc p ≡ suc (suc (suc (3 * p)))
three-more p = omega arith

all-put : (es : List Entry) (e : Entry) (p : ℕ) (rest : List ℕ) → p < length es → sets (all es ++ rest) (3 * p) (in_order e.settings) ≡ all (take p es ++ (e ∷ drop (suc p) es)) ++ rest
unfolding all flatten
all-put [] e p rest h = absurd (omega arith)
all-put (x ∷ es) e zero rest h = refl
all-put (x ∷ es) e (suc p) rest h =
    let s : Settings = x.settings in
    let vs : List ℕ = in_order e.settings in
    let l : List ℕ = all es ++ rest in
    ap (λ (i : ℕ). sets (s.speed ∷ s.weight ∷ s.threshold ∷ l) i vs) (three-more p)
    ∙ sets-past-first vs (s.weight ∷ s.threshold ∷ l) s.speed (suc (suc (3 * p)))
    ∙ ap (λ (k : List ℕ). s.speed ∷ k) (sets-past-first vs (s.threshold ∷ l) s.weight (suc (3 * p)))
    ∙ ap (λ (k : List ℕ). s.speed ∷ s.weight ∷ k) (sets-past-first vs l s.threshold (3 * p))
    ∙ ap (λ (k : List ℕ). s.speed ∷ s.weight ∷ s.threshold ∷ k) (all-put es e p rest (omega arith))

-- or behind all
all_more : (es : List Entry) (e : Entry) (rest : List ℕ) → sets (all es ++ (0 ∷ 0 ∷ 0 ∷ rest)) (3 * length es) (in_order e.settings) ≡ all (es ++ (e ∷ [])) ++ rest
unfolding all flatten
all_more [] e rest = refl
all_more (x ∷ es) e rest =
    let s : Settings = x.settings in
    let vs : List ℕ = in_order e.settings in
    let l : List ℕ = all es ++ (0 ∷ 0 ∷ 0 ∷ rest) in
    ap (λ (i : ℕ). sets (s.speed ∷ s.weight ∷ s.threshold ∷ l) i vs) (three-more (length es))
    ∙ sets-past-first vs (s.weight ∷ s.threshold ∷ l) s.speed (suc (suc (3 * length es)))
    ∙ ap (λ (k : List ℕ). s.speed ∷ k) (sets-past-first vs (s.threshold ∷ l) s.weight (suc (3 * length es)))
    ∙ ap (λ (k : List ℕ). s.speed ∷ s.weight ∷ k) (sets-past-first vs l s.threshold (3 * length es))
    ∙ ap (λ (k : List ℕ). s.speed ∷ s.weight ∷ s.threshold ∷ k) (all_more es e rest)

pub names_more : (es : List Entry) (e : Entry) → names (es ++ (e ∷ [])) ≡ names es ++ (e.voice ∷ [])
names_more [] e = refl
names_more (x ∷ es) e = ap (λ (l : List ℕ). x.voice ∷ l) (names_more es e)

-- a record of a new voice comes behind all
pub put-behind : (es : List Entry) (e : Entry) → first_at e.voice (names es) ≡ length es → put_entry es e ≡ es ++ (e ∷ [])
put-behind es e q = rw (q, take_all (length es) es (omega arith), drop_of_length-le es {i = suc (length es)} (omega arith))

-- one number more
more-each : (xs : List ℕ) (v : ℕ) → ((j : ℕ) → j < length xs → get_or xs j free ≤ most_voice) → v ≤ most_voice → (j : ℕ) → j < suc (length xs) → get_or (xs ++ (v ∷ [])) j free ≤ most_voice
more-each xs v k m j h = ⊎_elim
    (λ (i : length xs ≤ j). let o : j ≡ length xs + 0 = omega arith in rw (o, get_or-append-add xs (v ∷ []) 0 free) m)
    (λ (i : j < length xs). rw (get_or-append xs (v ∷ []) free j i) (k j i))
    (le_or_lt (length xs) j)

more-once : (xs : List ℕ) (v : ℕ) → first_at v xs ≡ length xs → ((j : ℕ) → j < length xs → first_at (get_or xs j free) xs ≡ j) → (j : ℕ) → j < suc (length xs) → first_at (get_or (xs ++ (v ∷ [])) j free) (xs ++ (v ∷ [])) ≡ j
unfolding first_at
more-once xs v n k j h = ⊎_elim
    (λ (i : length xs ≤ j).
    let o : j ≡ length xs + 0 = omega arith in
    let g : get_or (xs ++ (v ∷ [])) j free ≡ v = rw (o, get_or-append-add xs (v ∷ []) 0 free) in
    let f : first_at v (v ∷ []) ≡ 0 = rw (eq-eqb v v refl) in
    rw g (first-right v xs (v ∷ []) n ∙ omega (arith, f)))
    (λ (i : j < length xs). rw (get_or-append xs (v ∷ []) free j i) (first-left (get_or xs j free) xs (v ∷ []) (rw (k j i) i) ∙ k j i))
    (le_or_lt (length xs) j)

module _ (es : List Entry) (s : Store) (k : Closed es s) where
  pub voices-long : length s.voices ≡ most_voices
  voices-long = ap length k.numbers ∙ length-append (names es) _ ∙ rw (length-replicate (most_voices - length es) free, names-long es) (omega (arith, k.few))

  pub settings-long : length s.settings ≡ store_settings
  settings-long = ap length k.kept ∙ length-append (all es) _ ∙ rw (length-replicate {A = ℕ} (store_settings - 3 * length es) 0, all-long es) (omega (arith, k.few))

  -- the places of the records hold their voices, and those behind them are free
  pub held_there : (j : ℕ) → j < length es → holds_at s.voices j ≡ true
  held_there j h =
      let l : j < length (names es) = rw (names-long es) h in
      let g : get_or s.voices j free ≡ get_or (names es) j free = ap (λ (x : List ℕ). get_or x j free) k.numbers ∙ get_or-append (names es) _ free j l in
      let o : first_at (get_or (names es) j free) (names es) ≡ j = k.once j h in
      let f : first_at (get_or (names es) j free) s.voices ≡ j = ap (first_at (get_or (names es) j free)) k.numbers ∙ first-left (get_or (names es) j free) (names es) _ (rw (o, names-long es) h) ∙ o in
      rw (g, f, le-leb (get_or (names es) j free) most_voice (k.each j h), eq-eqb j j refl)

  pub behind-free : (j : ℕ) → length es ≤ j → j < most_voices → holds_at s.voices j ≡ false
  behind-free j l h =
      let a : j ≡ length (names es) + (j - length es) = omega (arith, names-long es) in
      let g : get_or s.voices j free ≡ free = ap (λ (x : List ℕ). get_or x j free) k.numbers ∙ ap (λ (i : ℕ). get_or (names es ++ replicate (most_voices - length es) free) i free) a ∙ get_or-append-add (names es) _ (j - length es) free ∙ get_or-replicate (most_voices - length es) (j - length es) free free (omega arith) in
      rw g

  first-free : length es < most_voices → free_place s.voices ≡ length es
  first-free h =
      off_at (holding s.voices) (length es) true (rw (holding-long s.voices, voices-long) h)
      (holding-at s.voices (length es) true (rw voices-long h) ∙ behind-free (length es) (omega arith) h)
      (λ j l. holding-at s.voices j true (rw voices-long (omega arith)) ∙ held_there j l)

  -- a voice is where it is among those of the records, or nowhere
  module _ (v : ℕ) (m : v ≤ most_voice) where
    pub first-there : first_at v (names es) < length es → first_at v s.voices ≡ first_at v (names es)
    first-there g = ap (first_at v) k.numbers ∙ first-left v (names es) _ (rw (names-long es) g)

    -- the free places have no voice
    not_free : (n : ℕ) → first_at v (replicate n free) ≡ n
    not_free n = first-none v (replicate n free) free (λ j h q. let z : free ≡ v = sym (get_or-replicate n j free free (rw (length-replicate n free) at h)) ∙ q in omega arith) ∙ length-replicate n free

    pub not_there : first_at v (names es) ≡ length es → first_at v s.voices ≡ most_voices
    not_there q = ap (first_at v) k.numbers ∙ first-right v (names es) _ (q ∙ sym (names-long es)) ∙ rw (not_free, names-long es) (omega (arith, k.few))

  module _ (e : Entry) (m : e.voice ≤ most_voice) where
    abbrev p : ℕ
    p = first_at e.voice (names es)

    p-within : p ≤ length es
    p-within = omega (arith, first-within e.voice (names es), names-long es)

    pub place_is : p < most_voices → place_for e.voice s.voices ≡ p
    place_is h = ⊎_elim
        (λ (g : length es ≤ p).
        let f : first_at e.voice s.voices ≡ most_voices = not_there e.voice m (omega (arith, p-within)) in
        sym (free-place e.voice s.voices (omega (arith, voices-long))) ∙ first-free (omega arith) ∙ omega (arith, p-within))
        (λ (g : p < length es).
        let f : first_at e.voice s.voices ≡ p = first-there e.voice m g in
        sym (own-place e.voice s.voices (omega (arith, voices-long))) ∙ f)
        (le_or_lt (length es) p)

    -- where it is put
    put-own : p < length es → Closed (put_entry es e) (store (set s.voices p e.voice) (sets s.settings (3 * p) (in_order e.settings)))
    put-own g =
        let q : get_or (names es) p free ≡ e.voice = first_is e.voice (names es) free (rw (names-long es) g) in
        let n : names (put_entry es e) ≡ names es = names-put es e p g q in
        let l : length (put_entry es e) ≡ length es = sym (names-long (put_entry es e)) ∙ ap length n ∙ names-long es in
        let b : get_or s.voices p free ≡ e.voice = ap (λ (x : List ℕ). get_or x p free) k.numbers ∙ get_or-append (names es) _ free p (rw (names-long es) g) ∙ q in
        record {
          few = rw l k.few;
          numbers = set_own s.voices p e.voice free (omega (arith, voices-long, k.few)) b ∙ k.numbers ∙ rw (n, l);
          kept = ap (λ (x : List ℕ). sets x (3 * p) (in_order e.settings)) k.kept ∙ all-put es e p _ g ∙ rw l;
          each = λ j h. rw n (k.each j (omega arith));
          once = λ j h. rw n (k.once j (omega arith));
        }

    put_next : p ≡ length es → p < most_voices → Closed (put_entry es e) (store (set s.voices p e.voice) (sets s.settings (3 * p) (in_order e.settings)))
    put_next q h =
        let r : ℕ = most_voices - suc (length es) in
        let a : most_voices - length es ≡ suc r = omega arith in
        let b : store_settings - 3 * length es ≡ suc (suc (suc (store_settings - 3 * suc (length es)))) = omega arith in
        let w : put_entry es e ≡ es ++ (e ∷ []) = put-behind es e q in
        let n : names (put_entry es e) ≡ names es ++ (e.voice ∷ []) = ap names w ∙ names_more es e in
        let l : length (put_entry es e) ≡ suc (length es) = sym (names-long (put_entry es e)) ∙ ap length n ∙ length-append (names es) (e.voice ∷ []) ∙ omega (arith, names-long es) in
        let z : length (names es) ≡ length es = names-long es in
        record {
          few = omega arith;
          numbers =
              ap (λ (x : List ℕ). set x p e.voice) k.numbers
              ∙ ap (λ (i : ℕ). set (names es ++ replicate i free) p e.voice) a
              ∙ set_at (names es) free (replicate r free) e.voice p (z ∙ sym q)
              ∙ sym (rw (n, l) (append_assoc (names es) (e.voice ∷ []) (replicate r free)));
          kept =
              ap (λ (x : List ℕ). sets x (3 * p) (in_order e.settings)) k.kept
              ∙ ap (λ (i : ℕ). sets (all es ++ replicate i 0) (3 * p) (in_order e.settings)) b
              ∙ ap (λ (i : ℕ). sets (all es ++ replicate (suc (suc (suc (store_settings - 3 * suc (length es))))) 0) (3 * i) (in_order e.settings)) q
              ∙ all_more es e _ ∙ rw (l, w);
          each = λ j g. rw n (more-each (names es) e.voice (λ i b. k.each i (omega arith)) m j (omega arith));
          once = λ j g. rw n (more-once (names es) e.voice (q ∙ sym z) (λ i b. k.once i (omega arith)) j (omega arith));
        }

    pub put-closed : p < most_voices → Closed (put_entry es e) (set_entry s e)
    unfolding set_in
    put-closed h = rw (place_is h) (⊎_elim (λ (g : length es ≤ p). put_next (omega (arith, p-within)) h) (λ (g : p < length es). put-own g) (le_or_lt (length es) p))

-- how many there are then
pub put-long : (es : List Entry) (e : Entry) → length (put_entry es e) ≡ max (length es) (first_at e.voice (names es) + 1)
put-long es e =
    let p : ℕ = first_at e.voice (names es) in
    let h : p ≤ length es = omega (arith, first-within e.voice (names es), names-long es) in
    length-append (take p es) (e ∷ drop (suc p) es) ∙ rw (length-take-le p es h, length-drop (suc p) es) (omega arith)

-- ---- the records of a file

-- no record is dropped again
pub settled-grows : (es xs : List Entry) → length es ≤ length (fold_from put_entry es xs)
unfolding fold_from
settled-grows es [] = omega arith
settled-grows es (x ∷ xs) = omega (arith, put-long es x, settled-grows (put_entry es x) xs)

module _ (bytes : List ℕ) where
  abbrev es : List Entry
  es = entries_of bytes

  es-long : length es ≡ count_of bytes
  unfolding entries_of
  es-long = build-length (entry_at (version_of bytes) bytes) (count_of bytes)

  -- one record more
  next-entry : (i : ℕ) → i < count_of bytes → take (i + 1) es ≡ take i es ++ (entry_at (version_of bytes) bytes i ∷ [])
  unfolding entries_of
  next-entry i h =
      let x : Entry = entry_at (version_of bytes) bytes i in
      rw add-one (take-suc es i x (rw es-long h) ∙ rw (build-at (entry_at (version_of bytes) bytes) (count_of bytes) i x h))

  -- a loop that sets the records has set the first i, and holds so many voices
  pub record Gathering (voices settings : List ℕ) (held i : ℕ) : Type 0 where
    pub within : i ≤ count_of bytes
    pub so_many : held ≡ length (settled (take i es))
    pub made : fold_from set_entry empty (take i es) ≡ store voices settings
    pub closed : Closed (settled (take i es)) (store voices settings)

  pub gathering : (voices settings : List ℕ) → voices ≡ empty.voices → settings ≡ empty.settings → Gathering voices settings 0 0
  unfolding settled fold_from
  gathering voices settings v s = rw (v, s) (record { within = zero-le; so_many = refl; made = refl; closed = none-closed })

  module _ (voices settings : List ℕ) (held i : ℕ) (k : Gathering voices settings held i) where
    pub gathered-few : held ≤ most_voices
    gathered-few = omega (arith, k.so_many, k.closed.few)

    pub numbers-long : length voices ≡ most_voices
    numbers-long = voices-long (settled (take i es)) (store voices settings) k.closed

    pub places-long : length settings ≡ store_settings
    places-long = settings-long (settled (take i es)) (store voices settings) k.closed

    pub gather_done : count_of bytes ≤ i → Gathered bytes (Ok tt) voices settings
    unfolding read_in
    gather_done h =
        let t : take i es ≡ es = take_all i es (rw es-long h) in
        let f : length (settled es) ≤ most_voices = rw (← t) k.closed.few in
        let m : store voices settings ≡ read_in bytes = sym k.made ∙ ap (fold_from set_entry empty) t in
        record { fits = rw (le-ltb most_voices (length (settled es)) f); numbers = λ o. ap (λ (s : Store). s.voices) m; kept = λ o. ap (λ (s : Store). s.settings) m }

    module _ (h : i < count_of bytes) (at voice : ℕ) (a : at ≡ head_bytes + entry_bytes (version_of bytes) * i) (v : voice ≡ word_at bytes at) (place : ℕ) (p : place ≡ first_at voice (take held voices)) where
      abbrev e : Entry
      e = entry_at (version_of bytes) bytes i

      voice_is : voice ≡ e.voice
      voice_is = v ∙ ap (word_at bytes) a

      front : take held voices ≡ names (settled (take i es))
      front =
          let n : length (names (settled (take i es))) ≡ held = names-long (settled (take i es)) ∙ sym k.so_many in
          ap (take held) k.closed.numbers ∙ take_at (names (settled (take i es))) _ held n

      place_of : place ≡ first_at e.voice (names (settled (take i es)))
      place_of = p ∙ rw (front, voice_is)

      settled-next : settled (take (i + 1) es) ≡ put_entry (settled (take i es)) e
      unfolding settled fold_from
      settled-next = ap (fold_from put_entry []) (next-entry i h) ∙ fold_append put_entry [] (take i es) (e ∷ [])

      pub gather_full : place ≡ most_voices → Gathered bytes (Err StoreFull) voices settings
      unfolding settled
      gather_full f =
          let l : length (settled (take (i + 1) es)) ≡ max (length (settled (take i es))) (place + 1) = ap length settled-next ∙ put-long (settled (take i es)) e ∙ rw (← place_of) in
          let w : settled es ≡ fold_from put_entry (settled (take (i + 1) es)) (drop (i + 1) es) = ap (fold_from put_entry []) (sym (take-append-drop (i + 1) es)) ∙ fold_append put_entry [] (take (i + 1) es) (drop (i + 1) es) in
          let g : most_voices < length (settled es) = rw w (omega (arith, settled-grows (settled (take (i + 1) es)) (drop (i + 1) es))) in
          let t : full_refusal bytes ≡ 17 = rw (lt-ltb most_voices (length (settled es)) g) in
          record { fits = sym t; numbers = λ o. absurd (omega arith); kept = λ o. absurd (omega arith) }

      pub place-within : (place ≡ most_voices → ⊥) → place < most_voices
      place-within d = omega (arith, gathered-few, place_of, first-within e.voice (names (settled (take i es))), names-long (settled (take i es)), k.so_many)

      pub gather_next : (b : Bytes bytes) (settings' : List ℕ) (held' : ℕ) → (place ≡ most_voices → ⊥) → settings' ≡ sets settings (3 * place) (in_order (settings_from (version_of bytes) bytes at)) → held' ≡ max held (place + 1)
          → Gathering (set voices place voice) settings' held' (i + 1)
      unfolding set_in fold_from
      gather_next b settings' held' d g l =
          let u : first_at e.voice (names (settled (take i es))) < most_voices = rw (← place_of) (place-within d) in
          let m : e.voice ≤ most_voice = let w = word_below bytes b (head_bytes + entry_bytes (version_of bytes) * i) in omega arith in
          let q : place_for e.voice voices ≡ place = place_is (settled (take i es)) (store voices settings) k.closed e m u ∙ sym place_of in
          let s : store (set voices place voice) settings' ≡ set_entry (store voices settings) e = rw (g, q, voice_is, a) in
          record {
            within = omega arith;
            so_many = l ∙ sym (ap length settled-next ∙ put-long (settled (take i es)) e ∙ rw (← place_of, k.so_many));
            made = ap (fold_from set_entry empty) (next-entry i h) ∙ fold_append set_entry empty (take i es) (e ∷ []) ∙ rw k.made (sym s);
            closed = rw (settled-next, s) (put-closed (settled (take i es)) (store voices settings) k.closed e m u);
          }
