-- What was written is read back: the same voices in the same order, with the same settings.
use mathlib.Core.Path.{◌≡◌, refl, sym, ap, subst, ◌∙◌}
use mathlib.Core.Bool.{Bool, true, false}
use mathlib.Core.Logic.{⊎_elim}
use mathlib.Core.List.{List, [], ◌∷◌, ◌++◌, flatten, append-nil}
use Prim.Native.Nat.{ℕ, zero, suc, ◌+◌, ◌-◌, ◌*◌, ◌^◌, ◌≤◌, ◌<◌}
use native.Mathlib.Omega.{arith}
use borrow.Author.Tests.{le-ltb, ltb-true}
use lib.ListN.{length, take, drop, get_or, replicate, length-append, length-drop, length-take, length-replicate, get_or-replicate, take-append-drop, get_or-append, get_or-eq_default}
use lib.Seq.{take_at, length-take-le, get_or-take, get_or-append-add, ext_get_or}
use Rattle.lists.specs.Sizes.{most_voices, most_voice}
use Rattle.lists.specs.Build.{build, fold_from}
use Rattle.lists.specs.Frames.{select, count}
use Rattle.lists.specs.Bytes.{Bytes}
use Rattle.lists.specs.Firsts.{first_at}
use Rattle.lists.specs.Refusals.{or_else}
use Rattle.lists.proofs.Numbers.{le_or_lt}
use Rattle.lists.proofs.Refusals.{or_none}
use Rattle.lists.proofs.Fills.{build-length}
use Rattle.lists.proofs.Builds.{build-at, build_is, map-build, fold_append}
use Rattle.lists.proofs.Firsts.{first-within, first_is, first-before, first-none}
use Rattle.lists.proofs.Chosen.{select-append, select-at, select-each, select-front, select-map, select-first, select-none}
use Rattle.std.specs.Prelude.{Result, Ok}
use Rattle.lists.specs.declared.Refusal.{Refusal}
use Rattle.lists.specs.Answers.{accepting}
use Rattle.lists.proofs.Answers.{accepted_is}
use Rattle.settings.specs.Store.{Store, store_settings, store_of, free, holds_at, holding, is_held, first_off, free_place, settings_at, Entry, entry_in, entries_in, held_in}
use Rattle.settings.specs.Changes.{empty}
use Rattle.settings.specs.Format.{put_entry, settled, set_entry, entries_of, read_refusal, read_in, voices_of}
use Rattle.lists.proofs.Ends.{accepted_ok}
use Rattle.settings.specs.Promise.{store_refusal, file_in, write_refusal, ReadSays, WriteSays}
use Rattle.settings.specs.Laws.{SameSettings}
use Rattle.settings.specs.Written.{Fits, nothing, Writable}
use Rattle.settings.proofs.Places.{holding-long, holding-at}
use Rattle.settings.proofs.Gathering.{names, put-behind, all, Closed, none-closed, names-long, voices-long, held_there, behind-free, first-there, not_there, three-more}
use Rattle.settings.proofs.Writing.{entries-held}
use Rattle.settings.proofs.Holding.{held-most}
use Rattle.settings.proofs.Setting.{holds-first, held_first}
use Rattle.settings.proofs.Refusing.{has_places}
use Rattle.settings.proofs.Files.{written_back, written-formed}
use Rattle.settings.proofs.Laws.{Sized, given_so, got_in, got_held, got_none, get_same, store_then, usable-then}
use Rattle.settings.proofs.Different.{Numbers, different_voices}
use Rattle.settings.proofs.OneByOne.{closed_fold, closed-sized, read-closed}

-- ---- what a closed store holds

-- the voice of a record
name_at : (es : List Entry) (j : ℕ) → j < length es → get_or (names es) j free ≡ (get_or es j nothing).voice
name_at [] j h = absurd (omega arith)
name_at (e ∷ es) zero h = refl
name_at (e ∷ es) (suc j) h = name_at es j (omega arith)

-- the settings of a place
all-at : (es : List Entry) (rest : List ℕ) (j : ℕ) → j < length es → settings_at (all es ++ rest) j ≡ (get_or es j nothing).settings
unfolding all flatten
all-at [] rest j h = absurd (omega arith)
all-at (e ∷ es) rest zero h = refl
all-at (e ∷ es) rest (suc j) h =
    let a : 3 * suc j + 1 ≡ suc (suc (suc (3 * j + 1))) = omega arith in
    let b : 3 * suc j + 2 ≡ suc (suc (suc (3 * j + 2))) = omega arith in
    rw (a, b, three-more j) (all-at es rest j (omega arith))

module _ (es : List Entry) (t : Store) (k : Closed es t) where
  -- its places hold a voice as far as the records go
  closed-holding : holding t.voices ≡ replicate (length es) true ++ replicate (most_voices - length es) false
  closed-holding =
      let n : ℕ = length es in
      let l : length (replicate n true) ≡ n = length-replicate n true in
      let m : length (replicate (most_voices - n) false) ≡ most_voices - n = length-replicate (most_voices - n) false in
      ext_get_or false (holding t.voices) (replicate n true ++ replicate (most_voices - n) false)
      (holding-long t.voices ∙ voices-long es t k ∙ sym (length-append (replicate n true) (replicate (most_voices - n) false) ∙ omega (arith, l, m, k.few)))
      (λ j h.
      let g : j < most_voices = omega (arith, holding-long t.voices, voices-long es t k) in
      holding-at t.voices j false (omega (arith, voices-long es t k)) ∙ ⊎_elim
      (λ (b : n ≤ j).
      let o : j ≡ length (replicate n true) + (j - n) = omega arith in
      behind-free es t k j b g ∙ sym (ap (λ (i : ℕ). get_or (replicate n true ++ replicate (most_voices - n) false) i false) o ∙ get_or-append-add (replicate n true) (replicate (most_voices - n) false) (j - n) false ∙ get_or-replicate (most_voices - n) (j - n) false false (omega arith)))
      (λ (b : j < n). held_there es t k j b ∙ sym (get_or-append (replicate n true) (replicate (most_voices - n) false) false j (omega arith) ∙ get_or-replicate n j true false b))
      (le_or_lt n j))

  entry-there : (j : ℕ) → j < length es → entry_in t j ≡ get_or es j nothing
  entry-there j h =
      let l : j < length (names es) = rw (names-long es) h in
      let a : get_or t.voices j free ≡ (get_or es j nothing).voice = ap (λ (x : List ℕ). get_or x j free) k.numbers ∙ get_or-append (names es) _ free j l ∙ name_at es j h in
      let b : settings_at t.settings j ≡ (get_or es j nothing).settings = ap (λ (x : List ℕ). settings_at x j) k.kept ∙ all-at es _ j h in
      rw (a, b)

  -- so it holds the records
  closed-entries : entries_in t ≡ es
  unfolding entries_in
  closed-entries =
      let n : ℕ = length es in
      let xs : List Entry = build (entry_in t) (length t.voices) in
      let l : length xs ≡ most_voices = build-length (entry_in t) (length t.voices) ∙ voices-long es t k in
      let f : take n xs ≡ es = ext_get_or nothing (take n xs) es (length-take-le n xs (omega (arith, k.few))) (λ j h.
      let g : j < n = omega (arith, length-take n xs) in
      get_or-take n xs j nothing g ∙ build-at (entry_in t) (length t.voices) j nothing (omega (arith, voices-long es t k, k.few)) ∙ entry-there j g) in
      ap (λ (bs : List Bool). select bs xs) closed-holding
      ∙ ap (select (replicate n true ++ replicate (most_voices - n) false)) (sym (take-append-drop n xs) ∙ ap (λ (ys : List Entry). ys ++ drop n xs) f)
      ∙ select-front es (drop n xs) (most_voices - n) (length-drop n xs ∙ omega arith)

-- ---- the records of a store

module _ (s : Store) where
  abbrev vs : List ℕ
  vs = s.voices

  abbrev bs : List Bool
  bs = holding vs

  -- those of the first i places
  unfoldable some : ℕ → List Entry
  some i = select (build (holds_at vs) i) (build (entry_in s) i)

  some-names : (i : ℕ) → names (some i) ≡ select (build (holds_at vs) i) (build (λ j. get_or vs j free) i)
  unfolding some
  some-names i = select-map (λ (e : Entry). e.voice) (build (holds_at vs) i) (build (entry_in s) i) ∙ ap (select (build (holds_at vs) i)) (map-build (λ (e : Entry). e.voice) (entry_in s) i)

  -- so its voice is none of those before
  new_name : (i : ℕ) → i < length vs → holds_at vs i ≡ true → first_at (get_or vs i free) (names (some i)) ≡ length (names (some i))
  new_name i h e =
      let v : ℕ = get_or vs i free in
      let f : first_at v (build (λ j. get_or vs j free) i) ≡ length (build (λ j. get_or vs j free) i) = first-none v (build (λ j. get_or vs j free) i) free (λ j g q.
      let l : j < i = rw (build-length (λ j. get_or vs j free) i) at g in
      first-before v vs j free (omega (arith, (held_first vs i e).1)) (sym (build-at (λ j. get_or vs j free) i j free l) ∙ q)) in
      rw (some-names i) (select-none v (build (holds_at vs) i) (build (λ j. get_or vs j free) i) f)

  some_next : (i : ℕ) → some (suc i) ≡ some i ++ select (holds_at vs i ∷ []) (entry_in s i ∷ [])
  unfolding some build
  some_next i = select-append (build (holds_at vs) i) (holds_at vs i ∷ []) (build (entry_in s) i) (entry_in s i ∷ []) (build-length (entry_in s) i ∙ sym (build-length (holds_at vs) i))

  -- no two of them are of one voice
  settled-some : (i : ℕ) → i ≤ length vs → fold_from put_entry [] (some i) ≡ some i
  unfolding fold_from select
  settled-some zero h = unfold some build in refl
  settled-some (suc i) h =
      let e : Entry = entry_in s i in
      rw (some_next i)
      ((elim (holds_at vs i) as (λ b. holds_at vs i ≡ b → fold_from put_entry [] (some i ++ select (b ∷ []) (e ∷ [])) ≡ some i ++ select (b ∷ []) (e ∷ [])) [
        | true ↦ λ q. fold_append put_entry [] (some i) (e ∷ []) ∙ ap (λ (es : List Entry). put_entry es e) (settled-some i (omega arith)) ∙ put-behind (some i) e (new_name i h q ∙ names-long (some i))
        | false ↦ λ q. rw (append-nil (some i)) (settled-some i (omega arith))
      ])
      refl)

  -- the records of the store are those of all its places
  all-some : entries_in s ≡ some (length vs)
  unfolding entries_in holding some
  all-some = refl

  settled-entries : settled (entries_in s) ≡ entries_in s
  unfolding settled
  settled-entries = rw all-some (settled-some (length vs) (omega arith))

  names_are : names (entries_in s) ≡ select bs vs
  unfolding holding
  names_are = ap names all-some ∙ some-names (length vs) ∙ ap (select (build (holds_at vs) (length vs))) (sym (build_is (λ j. get_or vs j free) (length vs) vs free refl (λ j h. refl)))

  -- what holds of each place that holds a voice holds of each record
  each-entry : (P : Entry → Type 0) → ((i : ℕ) → i < length vs → holds_at vs i ≡ true → P (entry_in s i)) → (j : ℕ) → j < length (entries_in s) → P (get_or (entries_in s) j nothing)
  unfolding entries_in
  each-entry P k = select-each P bs (build (entry_in s) (length vs)) nothing (build-length (entry_in s) (length vs) ∙ sym (holding-long vs)) (λ i h e.
      let g : i < length vs = rw (holding-long vs) at h in
      rw (build-at (entry_in s) (length vs) i nothing g) (k i g (sym (holding-at vs i false g) ∙ e)))

  entry-numbers : Numbers (entries_in s)
  entry-numbers = each-entry (λ e. e.voice ≤ most_voice) (λ i h e. (held_first vs i e).0)

  -- a file has room for them
  pub writable : ((i : ℕ) → get_or s.settings i 0 < 2 ^ 64) → length vs ≤ most_voices → Writable 2 (entries_in s)
  writable k l =
      record {
        known = refl;
        few = omega (arith, entries-held s, held-most vs);
        each = each-entry (Fits 2) (λ i h e. record { voice = omega (arith, (held_first vs i e).0); speed = k (3 * i); weight = k (3 * i + 1); threshold = k (3 * i + 2); first = λ q. absurd (omega arith) });
      }

  -- they are set in a clear store
  module _ (l : length vs ≡ most_voices) where
    few : length (entries_in s) ≤ most_voices
    few = omega (arith, entries-held s, held-most vs)

    abbrev t : Store
    t = fold_from set_entry empty (entries_in s)

    closed : Closed (entries_in s) t
    unfolding settled
    closed = let e : fold_from put_entry [] (entries_in s) ≡ entries_in s = settled-entries in rw e at (closed_fold (entries_in s) [] empty none-closed entry-numbers (rw e few))

    pub entries-back : entries_in t ≡ entries_in s
    entries-back = closed-entries (entries_in s) t closed

    -- a voice that isn't held
    module _ (v : ℕ) (m : v ≤ most_voice) where
      absent : length vs ≤ first_at v vs → first_at v t.voices ≡ most_voices
      absent h =
          let q : first_at v (names (entries_in s)) ≡ length (names (entries_in s)) = rw names_are (select-none v bs vs (omega (arith, first-within v vs))) in
          not_there (entries_in s) t closed v m (q ∙ names-long (entries_in s))

      -- and one that is: it has as many before it as hold a voice
      module _ (h : first_at v vs < length vs) where
        abbrev p : ℕ
        p = first_at v vs

        abbrev q : ℕ
        q = count (take p bs)

        on : get_or bs p false ≡ true
        on = holding-at vs p false h ∙ holds-first vs v m h

        rank : first_at v (names (entries_in s)) ≡ q
        rank = ap (first_at v) names_are ∙ select-first v bs vs (sym (holding-long vs)) h on

        name_there : get_or (names (entries_in s)) q free ≡ v
        name_there = ap (λ (x : List ℕ). get_or x q free) names_are ∙ select-at bs vs p free (rw (holding-long vs) h) (sym (holding-long vs)) on ∙ first_is v vs free h

        within : q < length (entries_in s)
        within = ⊎_elim
            (λ (g : length (names (entries_in s)) ≤ q). absurd (let z : free ≡ v = sym (get_or-eq_default (names (entries_in s)) free g) ∙ name_there in omega arith))
            (λ (g : q < length (names (entries_in s))). rw (names-long (entries_in s)) at g)
            (le_or_lt (length (names (entries_in s))) q)

        pub place-back : first_at v t.voices ≡ q
        place-back = first-there (entries_in s) t closed v m (rw rank within) ∙ rank

        settings-back : settings_at t.settings q ≡ settings_at s.settings p
        unfolding entries_in
        settings-back =
            ap (λ (e : Entry). e.settings) (entry-there (entries_in s) t closed q within
            ∙ select-at bs (build (entry_in s) (length vs)) p nothing (rw (holding-long vs) h) (build-length (entry_in s) (length vs) ∙ sym (holding-long vs)) on
            ∙ build-at (entry_in s) (length vs) p nothing h)

      pub got_back : got_in v t ≡ got_in v s
      got_back = ⊎_elim
          (λ (h : length vs ≤ first_at v vs). got_none v t (omega (arith, absent h, voices-long (entries_in s) t closed)) ∙ sym (got_none v s h))
          (λ (h : first_at v vs < length vs).
          got_held v t (omega (arith, place-back h, within h, few, voices-long (entries_in s) t closed))
          ∙ ap given_so (ap (settings_at t.settings) (place-back h) ∙ settings-back h) ∙ sym (got_held v s h))
          (le_or_lt (length vs) (first_at v vs))

-- ---- over the calls

-- RULES, Settings: a file that was read leaves its records, a later one in the place of an earlier of its voice
pub read-holds : (voices settings bytes : List ℕ) → Bytes bytes → (voices' settings' : List ℕ) → ReadSays voices settings bytes (Ok tt) voices' settings' → entries_in (store_of voices' settings') ≡ settled (entries_of bytes)
read-holds voices settings bytes b voices' settings' read =
    let k : Closed (settled (entries_of bytes)) (read_in bytes) = read-closed voices settings bytes b voices' settings' read in
    ap entries_in (store_then read (closed-sized (settled (entries_of bytes)) (read_in bytes) k)) ∙ closed-entries (settled (entries_of bytes)) (read_in bytes) k

-- each setting of a front has 64 bits where those of the list have
front-bits : (n : ℕ) (l : List ℕ) → ((i : ℕ) → get_or l i 0 < 2 ^ 64) → (i : ℕ) → get_or (take n l) i 0 < 2 ^ 64
front-bits zero l k i = omega arith
front-bits (suc n) [] k i = omega arith
front-bits (suc n) (x ∷ l) k zero = k 0
front-bits (suc n) (x ∷ l) k (suc i) = front-bits n l (λ j. k (suc j)) i

-- RULES, Settings: a store was written, and the file is read into another, whatever that held; each number of the settings has 64 bits
module _ (voices settings out out' : List ℕ) (m : ℕ) (wrote : WriteSays voices settings out (Ok m) out') (bits : (i : ℕ) → get_or settings i 0 < 2 ^ 64)
    (ws ts : List ℕ) (u : store_refusal ws ts ≡ 0) (r : Result (Unit {0}) Refusal) (ws' ts' : List ℕ) (reads : ReadSays ws ts (take m out') r ws' ts') where
  abbrev x : Store
  x = store_of voices settings

  abbrev bytes : List ℕ
  bytes = file_in x

  was : (write_refusal voices settings out ≡ 0) × (m ≡ length bytes)
  was =
      let a = accepted_is (accepting (m ∷ [])) (write_refusal voices settings out) (length bytes ∷ []) wrote.answer refl in
      let v = a.1 in
      (a.0, cc)

  usable : store_refusal voices settings ≡ 0
  unfolding write_refusal
  usable = (or_none (store_refusal voices settings) _ was.0).0

  long : length x.voices ≡ most_voices
  long = length-take-le most_voices voices (has_places voices settings usable).0

  file_is : take m out' ≡ bytes
  file_is = ap (take m) (wrote.output ∙ rw was.0) ∙ take_at bytes (drop (length bytes) out) m (sym was.1)

  room : Writable 2 (entries_in x)
  room = writable x (front-bits store_settings settings bits) (omega (arith, long))

  says : entries_of bytes ≡ entries_in x
  says = written_back 2 (entries_in x) room

  accepted : or_else (store_refusal ws ts) (read_refusal (take m out')) ≡ 0
  unfolding read_refusal
  accepted =
      let n : held_in (voices_of (entries_in x)) ≡ length (entries_in x) = sym (different_voices (entries_in x) (entry-numbers x)) ∙ ap length (settled-entries x) in
      let l : held_in (voices_of (entries_of bytes)) ≤ most_voices = rw (says, n) (few x long) in
      rw (u, file_is, written-formed 2 (entries_in x) room, le-ltb most_voices (held_in (voices_of (entries_of bytes))) l)

  done : r ≡ Ok tt
  done = accepted_ok r (reads.answer ∙ accepted)

  read_done : ReadSays ws ts (take m out') (Ok tt) ws' ts'
  read_done = subst (λ (y : Result (Unit {0}) Refusal). ReadSays ws ts (take m out') y ws' ts') done reads

  is_read : read_in (take m out') ≡ t x long
  unfolding read_in
  is_read = rw (file_is, says)

  read-sized : Sized (read_in (take m out'))
  read-sized = rw is_read (closed-sized (entries_in x) (t x long) (closed x long))

  then : store_of ws' ts' ≡ t x long
  then = store_then read_done read-sized ∙ is_read

  pub written_read : (r ≡ Ok tt) × SameSettings voices settings ws' ts'
  written_read = (
    done,
    record {
      entries = ap entries_in then ∙ entries-back x long;
      gets = λ v a b. get_same voices settings ws' ts' v a b usable (usable-then read_done read-sized) (λ n. ap (got_in v) then ∙ got_back x long v n);
      places = λ v n h. ap (λ (y : Store). first_at v y.voices) then ∙ place-back x long v n (ltb-true (first_at v x.voices) (length x.voices) h);
    },
  )

-- and so its own place where none before it was free
on-count : (bs : List Bool) (p : ℕ) → p ≤ first_off bs → count (take p bs) ≡ p
unfolding first_off count
on-count bs zero h = refl
on-count [] (suc p) h = absurd (omega arith)
on-count (true ∷ bs) (suc p) h = ap suc (on-count bs p (omega arith))
on-count (false ∷ bs) (suc p) h = absurd (omega arith)

pub same_place : (voices settings voices' settings' : List ℕ) → SameSettings voices settings voices' settings' → (voice : ℕ) → voice ≤ most_voice → is_held voice (take most_voices voices) ≡ true
    → first_at voice (take most_voices voices) ≤ free_place (take most_voices voices) → first_at voice (take most_voices voices') ≡ first_at voice (take most_voices voices)
same_place voices settings voices' settings' s voice m e h = s.places voice m e ∙ on-count (holding (take most_voices voices)) (first_at voice (take most_voices voices)) h
