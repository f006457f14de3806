-- The file of a store: how long it is, and how it comes to stand in the output.
use mathlib.Core.Path.{◌≡◌, refl, sym, ap, ◌∙◌}
use mathlib.Core.Bool.{Bool, true, false, cond}
use mathlib.Core.List.{List, [], ◌∷◌, ◌++◌, flatten, append_assoc, append-nil}
use Prim.Native.Nat.{ℕ, zero, suc, ◌+◌, ◌*◌, ◌≤◌, ◌<◌, zero-le}
use native.Mathlib.Nat.{mul-zero, mul-suc}
use native.Mathlib.Numerals.{add-one}
use native.Mathlib.Omega.{arith}
use borrow.Author.Tests.{lt-ltb, le-ltb}
use lib.Dec.{eqb}
use lib.ListN.{length, take, get_or, length-append}
use lib.Seq.{sets, length-sets, sets-eq, length-take-le}
use Rattle.lists.specs.Sizes.{most_voices}
use Rattle.lists.specs.Build.{build, rows}
use Rattle.lists.specs.Frames.{select}
use Rattle.lists.specs.Bytes.{bytes_of}
use Rattle.lists.proofs.Answers.{same, untouched, in_front}
use Rattle.lists.proofs.Stores.{sets_behind}
use Rattle.lists.proofs.Fills.{build-length}
use Rattle.lists.proofs.Bytes.{bytes-length}
use Rattle.lists.proofs.Counts.{select-length}
use Rattle.lists.proofs.Chosen.{at_any, select-append}
use Rattle.settings.specs.declared.Settings.{Settings}
use Rattle.std.specs.Prelude.{Result, Ok, Err}
use Rattle.lists.specs.declared.Refusal.{Refusal}
use Rattle.lists.specs.declared.Refusal.TheVariants.{TooLittleRoom}
use Rattle.lists.specs.Refusals.{number_of}
use Rattle.lists.proofs.Ends.{not_none, refuses, counted-one, stops}
use Rattle.settings.specs.Store.{Store, store_settings, store_of, free, holds_at, holding, held_in, settings_at, Entry, entry, entry_in, entries_in}
use Rattle.settings.specs.Format.{mark, head_bytes, entry_bytes, length_of, bytes_of_entry, bytes_of_entries, bytes_of_heading, bytes_of_file}
use Rattle.settings.specs.Promise.{store_refusal, file_in, write_refusal, WriteSays}
use Rattle.settings.specs.Inner.Steps.{bytes_at, PlaceWritten}
use Rattle.settings.proofs.Refusing.{has_places}
use Rattle.settings.proofs.Places.{holding-long}

-- ---- lengths

pub entry-long : (version : ℕ) (e : Entry) → length (bytes_of_entry version e) ≡ entry_bytes version
unfolding bytes_of
entry-long version e =
    let s = e.settings in
    (elim (eqb version 1) as (λ t. length (bytes_of 2 e.voice ++ (bytes_of 8 s.speed ++ (bytes_of 8 s.weight ++ cond t [] (bytes_of 8 s.threshold)))) ≡ cond t 18 26) [ true ↦ refl | false ↦ refl ])

pub entries-long : (version : ℕ) (es : List Entry) → length (bytes_of_entries version es) ≡ entry_bytes version * length es
unfolding bytes_of_entries flatten
entries-long version [] = sym (mul-zero (entry_bytes version))
entries-long version (e ∷ es) = length-append (bytes_of_entry version e) (bytes_of_entries version es) ∙ omega (arith, entry-long version e, entries-long version es, mul-suc (entry_bytes version) (length es))

pub heading-long : (version count : ℕ) → length (bytes_of_heading version count) ≡ head_bytes
unfolding bytes_of_heading bytes_of
heading-long version count = refl

pub file-long : (version : ℕ) (es : List Entry) → length (bytes_of_file version es) ≡ length_of version (length es)
unfolding bytes_of_file
file-long version es = length-append (bytes_of_heading version (length es)) (bytes_of_entries version es) ∙ rw (heading-long version (length es), entries-long version es)

-- a record for each voice that is held
pub entries-held : (s : Store) → length (entries_in s) ≡ held_in s.voices
unfolding entries_in
entries-held s = select-length (holding s.voices) (build (entry_in s) (length s.voices)) (build-length (entry_in s) (length s.voices) ∙ sym (holding-long s.voices))

pub store_long : (s : Store) → length (file_in s) ≡ head_bytes + 26 * held_in s.voices
store_long s = file-long 2 (entries_in s) ∙ ap (length_of 2) (entries-held s)

-- ---- numbers one behind the other

pub entry-written : (out a b c d : List ℕ) (at voice : ℕ) (given : Settings) → a ≡ sets out at (bytes_of 2 voice) → b ≡ sets a (at + 2) (bytes_of 8 given.speed) → c ≡ sets b (at + 10) (bytes_of 8 given.weight)
    → d ≡ sets c (at + 18) (bytes_of 8 given.threshold) → d ≡ sets out at (bytes_of_entry 2 (entry voice given))
entry-written out a b c d at voice given e f g h =
    h
    ∙ sets_behind (bytes_of 8 given.weight) _ b c (at + 10) (at + 18) g (omega (arith, bytes-length 8 given.weight))
    ∙ sets_behind (bytes_of 8 given.speed) _ a b (at + 2) (at + 10) f (omega (arith, bytes-length 8 given.speed))
    ∙ sets_behind (bytes_of 2 voice) _ out a at (at + 2) e (omega (arith, bytes-length 2 voice))

pub heading-written : (out a b c : List ℕ) (count : ℕ) → a ≡ sets out 0 (take 3 mark) → b ≡ sets a 3 (bytes_of 2 2) → c ≡ sets b 5 (bytes_of 2 count) → c ≡ sets out 0 (bytes_of_heading 2 count)
unfolding bytes_of_heading
heading-written out a b c count e f g = g ∙ sets_behind (bytes_of 2 2) (bytes_of 2 count) a b 3 5 f (omega (arith, bytes-length 2 2)) ∙ sets_behind mark (bytes_of 2 2 ++ bytes_of 2 count) out a 0 3 e refl

-- ---- the record of a place

module _ (s : Store) (i : ℕ) (out : List ℕ) (at : ℕ) where
  pub place-free : holds_at s.voices i ≡ false → PlaceWritten s i out at at out
  place-free e = record { behind = rw e (omega arith); output = rw e }

  pub place-held : (out' : List ℕ) (voice : ℕ) (given : Settings) → holds_at s.voices i ≡ true → i < length s.voices → voice ≡ get_or s.voices i 0 → given ≡ settings_at s.settings i
      → out' ≡ sets out at (bytes_of_entry 2 (entry voice given)) → PlaceWritten s i out at (at + 26) out'
  place-held out' voice given e h v g o =
      record { behind = rw (e, entry-long 2 (entry_in s i)); output = rw e (o ∙ rw (v, g, at_any s.voices i 0 free h)) }

at_most : (s : Store) (i : ℕ) → length (bytes_at s i) ≤ 26
at_most s i = (elim (holds_at s.voices i) as (λ t. length (cond t (bytes_of_entry 2 (entry_in s i)) []) ≤ 26) [ true ↦ omega (arith, entry-long 2 (entry_in s i)) | false ↦ omega arith ])

-- ---- the records of all places

entries-append : (version : ℕ) (es fs : List Entry) → bytes_of_entries version (es ++ fs) ≡ bytes_of_entries version es ++ bytes_of_entries version fs
unfolding bytes_of_entries flatten
entries-append version [] fs = refl
entries-append version (e ∷ es) fs = ap (λ (r : List ℕ). bytes_of_entry version e ++ r) (entries-append version es fs) ∙ sym (append_assoc (bytes_of_entry version e) (bytes_of_entries version es) (bytes_of_entries version fs))

entry-alone : (b : Bool) (e : Entry) → bytes_of_entries 2 (select (b ∷ []) (e ∷ [])) ≡ cond b (bytes_of_entry 2 e) []
unfolding bytes_of_entries flatten select
entry-alone true e = append-nil (bytes_of_entry 2 e)
entry-alone false e = refl

places-bytes : (s : Store) (n : ℕ) → rows (bytes_at s) n ≡ bytes_of_entries 2 (select (build (holds_at s.voices) n) (build (entry_in s) n))
unfolding rows build
places-bytes s zero = unfold bytes_of_entries flatten select in refl
places-bytes s (suc n) =
    let bs : List Bool = build (holds_at s.voices) n in
    let es : List Entry = build (entry_in s) n in
    let b : Bool = holds_at s.voices n in
    let e : Entry = entry_in s n in
    let l : length es ≡ length bs = build-length (entry_in s) n ∙ sym (build-length (holds_at s.voices) n) in
    ap (λ (r : List ℕ). r ++ bytes_at s n) (places-bytes s n)
    ∙ ap (λ (r : List ℕ). bytes_of_entries 2 (select bs es) ++ r) (sym (entry-alone b e))
    ∙ sym (entries-append 2 (select bs es) (select (b ∷ []) (e ∷ [])))
    ∙ ap (bytes_of_entries 2) (sym (select-append bs (b ∷ []) es (e ∷ []) l))

-- the records of a store, by its places
pub entries-rows : (s : Store) → rows (bytes_at s) (length s.voices) ≡ bytes_of_entries 2 (entries_in s)
unfolding entries_in holding
entries-rows s = places-bytes s (length s.voices)

-- a loop that writes them has written those of the first i places
pub record Putting (s : Store) (out₀ out : List ℕ) (at i : ℕ) : Type 0 where
  pub within : i ≤ most_voices
  pub near : at ≤ head_bytes + 26 * i
  pub next : at ≡ head_bytes + length (rows (bytes_at s) i)
  pub so_far : out ≡ sets out₀ head_bytes (rows (bytes_at s) i)
  pub long : length out ≡ length out₀

pub putting : (s : Store) (out : List ℕ) → Putting s out out head_bytes 0
unfolding rows
putting s out = record { within = zero-le; near = omega arith; next = refl; so_far = refl; long = refl }

module _ {s : Store} {out₀ out : List ℕ} {at i : ℕ} (k : Putting s out₀ out at i) where
  pub putting-next : (next : ℕ) (out' : List ℕ) → i < most_voices → PlaceWritten s i out at next out' → Putting s out₀ out' next (i + 1)
  unfolding rows
  putting-next next out' h w =
      let front : List ℕ = rows (bytes_at s) i in
      let more : rows (bytes_at s) (i + 1) ≡ front ++ bytes_at s i = ap (rows (bytes_at s)) (add-one i) in
      record {
        within = omega arith;
        near = omega (arith, k.near, w.behind, at_most s i);
        next = rw more (rw (length-append front (bytes_at s i)) (omega (arith, k.next, w.behind)));
        so_far = rw more (w.output ∙ sets_behind front (bytes_at s i) out₀ out head_bytes at k.so_far (sym k.next));
        long = ap length w.output ∙ length-sets out at (bytes_at s i) ∙ k.long;
      }

  pub putting-done : length s.voices ≡ most_voices → most_voices ≤ i → out ≡ sets out₀ head_bytes (bytes_of_entries 2 (entries_in s))
  putting-done l h =
      let e : i ≡ length s.voices = omega (arith, k.within) in
      k.so_far ∙ ap (λ (j : ℕ). sets out₀ head_bytes (rows (bytes_at s) j)) e ∙ ap (sets out₀ head_bytes) (entries-rows s)

-- ---- the ways through write

-- a store that isn't refused has its places
pub store-whole : (voices settings : List ℕ) → store_refusal voices settings ≡ 0 → (length (take most_voices voices) ≡ most_voices) × (length (take store_settings settings) ≡ store_settings)
store-whole voices settings e = let p = has_places voices settings e in (length-take-le most_voices voices p.0, length-take-le store_settings settings p.1)

module _ (voices settings out : List ℕ) where
  abbrev file : List ℕ
  file = file_in (store_of voices settings)

  refused_so : (d : Refusal) → number_of d ≡ write_refusal voices settings out → WriteSays voices settings out (Err d) out
  refused_so d e = record { answer = refuses d (write_refusal voices settings out) _ e; output = untouched (write_refusal voices settings out) file out (not_none d (write_refusal voices settings out) e) }

  pub write_short : (d : Refusal) → number_of d ≡ store_refusal voices settings → WriteSays voices settings out (Err d) out
  unfolding write_refusal
  write_short d e = refused_so d (stops d (store_refusal voices settings) _ e)

  module _ (none : store_refusal voices settings ≡ 0) (n : ℕ) (e : n ≡ held_in (take most_voices voices)) where
    long : length file ≡ head_bytes + 26 * n
    long = store_long (store_of voices settings) ∙ rw e

    pub write_small : length out < head_bytes + 26 * n → WriteSays voices settings out (Err TooLittleRoom) out
    unfolding write_refusal
    write_small h = refused_so TooLittleRoom (rw (none, lt-ltb (length out) (length file) (rw long h)))

    pub write_done : (a b : List ℕ) → head_bytes + 26 * n ≤ length out → a ≡ sets out 0 (bytes_of_heading 2 n) → b ≡ sets a head_bytes (bytes_of_entries 2 (entries_in (store_of voices settings)))
        → WriteSays voices settings out (Ok (head_bytes + 26 * n)) b
    unfolding write_refusal bytes_of_file
    write_done a b h f g =
        let s : Store = store_of voices settings in
        let z : write_refusal voices settings out ≡ 0 = rw (none, le-ltb (length out) (length file) (rw long h)) in
        let k : 0 + length (bytes_of_heading 2 n) ≡ head_bytes = omega (arith, heading-long 2 n) in
        record {
          answer = rw (z, long);
          output = g ∙ sets_behind (bytes_of_heading 2 n) (bytes_of_entries 2 (entries_in s)) out a 0 head_bytes f k
              ∙ ap (λ (m : ℕ). sets out 0 (bytes_of_heading 2 m ++ bytes_of_entries 2 (entries_in s))) (e ∙ sym (entries-held s))
              ∙ sets-eq file out 0 (omega (arith, long))
              ∙ in_front (write_refusal voices settings out) (0 + length file) file file out z refl (omega arith);
        }

-- two outcomes that write allows are equal
pub write_one : (voices settings out : List ℕ) (r s : Result ℕ Refusal) (o₁ o₂ : List ℕ) → WriteSays voices settings out r o₁ → WriteSays voices settings out s o₂ → (r ≡ s) × (o₁ ≡ o₂)
write_one voices settings out r s o₁ o₂ f g = (counted-one r s (same (f.answer ∙ sym g.answer)), f.output ∙ sym g.output)
