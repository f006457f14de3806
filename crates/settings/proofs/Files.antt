-- The format from both sides: the records that a file says, and the file that says them.
use mathlib.Core.Path.{◌≡◌, refl, sym, ap, ◌∙◌}
use mathlib.Core.Bool.{true, false, cond}
use mathlib.Core.List.{List, [], ◌++◌, append_assoc, append-nil}
use Prim.Native.Nat.{ℕ, ◌+◌, ◌*◌, ◌^◌, ◌≤◌, ◌<◌}
use native.Mathlib.Nat.{mul_comm, suc-mul, mul-le-mul_right}
use native.Mathlib.Omega.{arith}
use borrow.Author.Tests.{le-ltb, eq-eqb, eqb-true}
use lib.Dec.{eqb, ltb}
use lib.ListN.{length, take, drop, get_or, length-drop, take-append-drop, drop_of_length-le}
use lib.Seq.{drop-drop, length-take-le}
use Rattle.lists.specs.Sizes.{most_voices}
use Rattle.lists.specs.Build.{rows}
use Rattle.lists.specs.Parts.{part}
use Rattle.lists.specs.Bytes.{Bytes, little, bytes_of, word_at, pattern_at, starts_with}
use Rattle.lists.proofs.Refusals.{or_none, none_then}
use Rattle.lists.proofs.Bytes.{little-bytes}
use Rattle.lists.proofs.Spelled.{part-spelled, part-below, word_below}
use Rattle.lists.proofs.Fronts.{starts_is, is_starts}
use Rattle.lists.proofs.Builds.{build_is, build-at}
use Rattle.lists.proofs.Fills.{build-length}
use Rattle.lists.proofs.Joins.{part-part, part-joined, part-last, part-behind, rows-own, rows_cut, rows_same, flatten_rows}
use Rattle.settings.specs.declared.Settings.{Settings}
use Rattle.settings.specs.Store.{Entry, held_in}
use Rattle.settings.specs.Format.{mark, version_of, is_known, count_of, head_bytes, entry_bytes, half, entry_from, entry_at, entries_of, format_refusal, voices_of, read_refusal, bytes_of_entry, bytes_of_entries, bytes_of_heading, bytes_of_file}
use Rattle.settings.specs.Written.{Fits, nothing, Writable}
use Rattle.settings.proofs.Refusing.{well_formed}
use Rattle.settings.proofs.Writing.{entry-long, heading-long, file-long}

-- a known version is 1 or 2
known_2 : (version : ℕ) → is_known version ≡ true → eqb version 1 ≡ false → version ≡ 2
known_2 version k n = eqb-true version 2 (rw n at k)

version-small : (version : ℕ) → is_known version ≡ true → version < 65536
version-small version k =
    (elim (eqb version 1) as (λ b. eqb version 1 ≡ b → version < 65536) [
      | true ↦ λ q. omega (arith, eqb-true version 1 q)
      | false ↦ λ q. omega (arith, known_2 version k q)
    ])
    refl

-- ---- a file that was written

-- one record, by its bytes alone
module _ (version : ℕ) (e : Entry) (f : Fits version e) where
  abbrev s : Settings
  s = e.settings

  entry-voice : word_at (bytes_of_entry version e) 0 ≡ e.voice
  unfolding bytes_of
  entry-voice = little-bytes 2 e.voice f.voice

  entry-speed : pattern_at (bytes_of_entry version e) 2 ≡ s.speed
  unfolding bytes_of
  entry-speed = little-bytes 8 s.speed f.speed

  entry-weight : pattern_at (bytes_of_entry version e) 10 ≡ s.weight
  unfolding bytes_of
  entry-weight = little-bytes 8 s.weight f.weight

  entry-last : eqb version 1 ≡ false → pattern_at (bytes_of_entry version e) 18 ≡ s.threshold
  unfolding bytes_of
  entry-last q = rw q (little-bytes 8 s.threshold f.threshold)

entry-least : (version : ℕ) → 18 ≤ entry_bytes version
entry-least version = (elim (eqb version 1) as (λ b. 18 ≤ cond b 18 26) [ true ↦ omega arith | false ↦ omega arith ])

-- a record of a file is read from its own bytes
module _ (version : ℕ) (bytes : List ℕ) (at : ℕ) (e : Entry) (q : part at (entry_bytes version) bytes ≡ bytes_of_entry version e) (f : Fits version e) where
  last-own : cond (eqb version 1) half (pattern_at bytes (at + 18)) ≡ e.settings.threshold
  last-own =
      (elim (eqb version 1) as (λ b. eqb version 1 ≡ b → cond b half (pattern_at bytes (at + 18)) ≡ e.settings.threshold) [
        | true ↦ λ x. sym (f.first (eqb-true version 1 x))
        | false ↦ λ x. ap little (sym (part-part at (entry_bytes version) 18 8 bytes (rw x (omega arith)))) ∙ ap (λ (l : List ℕ). pattern_at l 18) q ∙ entry-last version e f x
      ])
      refl

  entry-own : entry_from version bytes at ≡ e
  entry-own =
      let w : ℕ = entry_bytes version in
      let l : 18 ≤ w = entry-least version in
      let z : at + 0 ≡ at = omega arith in
      let a : word_at bytes at ≡ e.voice = ap (word_at bytes) (sym z) ∙ ap little (sym (part-part at w 0 2 bytes (omega arith))) ∙ ap (λ (x : List ℕ). word_at x 0) q ∙ entry-voice version e f in
      let b : pattern_at bytes (at + 2) ≡ e.settings.speed = ap little (sym (part-part at w 2 8 bytes (omega arith))) ∙ ap (λ (x : List ℕ). pattern_at x 2) q ∙ entry-speed version e f in
      let c : pattern_at bytes (at + 10) ≡ e.settings.weight = ap little (sym (part-part at w 10 8 bytes (omega arith))) ∙ ap (λ (x : List ℕ). pattern_at x 10) q ∙ entry-weight version e f in
      rw (a, b, c, last-own)

module _ (version : ℕ) (es : List Entry) (k : Writable version es) where
  abbrev file : List ℕ
  file = bytes_of_file version es

  abbrev w : ℕ
  w = entry_bytes version

  abbrev row : ℕ → List ℕ
  row i = bytes_of_entry version (get_or es i nothing)

  version-back : version_of file ≡ version
  unfolding bytes_of_file bytes_of_heading bytes_of
  version-back = little-bytes 2 version (version-small version k.known)

  count-back : count_of file ≡ length es
  unfolding bytes_of_file bytes_of_heading bytes_of
  count-back = little-bytes 2 (length es) k.few

  entry-part : (i : ℕ) → i < length es → part (head_bytes + w * i) w file ≡ row i
  unfolding bytes_of_file bytes_of_entries
  entry-part i h =
      part-behind (bytes_of_heading version (length es)) (bytes_of_entries version es) head_bytes (head_bytes + w * i) (w * i) w (heading-long version (length es)) refl
      ∙ ap (λ (l : List ℕ). part (w * i) w l) (flatten_rows (bytes_of_entry version) nothing es)
      ∙ ap (λ (o : ℕ). part o w (rows row (length es))) (mul_comm w i)
      ∙ rows-own row w (length es) i h (λ j g. entry-long version (get_or es j nothing))

  -- it says these records
  pub written_back : entries_of file ≡ es
  unfolding entries_of
  written_back = rw (version-back, count-back) (sym (build_is (entry_at version file) (length es) es nothing refl (λ i h. sym (entry-own version file (head_bytes + w * i) (get_or es i nothing) (entry-part i h) (k.each i h)))))

  marked : starts_with mark file ≡ true
  marked = is_starts mark file (unfold bytes_of_file bytes_of_heading in refl)

  -- and is well formed
  pub written-formed : format_refusal file ≡ 0
  written-formed =
      let l : length file ≡ head_bytes + w * length es = file-long version es in
      sym (well_formed file marked (omega arith) version (sym version-back) k.known w (length es) refl (sym count-back) l)

  -- so it is accepted where it has no more than 256 voices
  pub written-accepted : held_in (voices_of es) ≤ most_voices → read_refusal file ≡ 0
  unfolding read_refusal
  written-accepted h = rw (written-formed, written_back, le-ltb most_voices (held_in (voices_of es)) h)

-- ---- a file that is well formed

-- as every file that is accepted is
pub read-formed : (bytes : List ℕ) → read_refusal bytes ≡ 0 → format_refusal bytes ≡ 0
unfolding read_refusal
read-formed bytes e = (or_none (format_refusal bytes) _ e).0

module _ (bytes : List ℕ) (b : Bytes bytes) (z : format_refusal bytes ≡ 0) where
  abbrev v : ℕ
  v = version_of bytes

  abbrev n : ℕ
  n = count_of bytes

  abbrev size : ℕ
  size = entry_bytes v

  parts : (starts_with mark bytes ≡ true) × (is_known v ≡ true) × (length bytes ≡ head_bytes + size * n)
  unfolding format_refusal
  parts =
      let a = or_none (cond (starts_with mark bytes) 0 18) _ z in
      let c = or_none (cond (ltb (length bytes) 5) 18 0) _ a.1 in
      let d = or_none (cond (is_known v) 0 16) _ c.1 in
      (none_then (starts_with mark bytes) 17 a.0, none_then (is_known v) 15 d.0, eqb-true (length bytes) (head_bytes + size * n) (none_then (eqb (length bytes) (head_bytes + size * n)) 17 d.1))

  -- one record, at a place from which its bytes are there
  module _ (at : ℕ) (h : at + size ≤ length bytes) where
    abbrev l : List ℕ
    l = part at size bytes

    l-long : length l ≡ size
    l-long = length-take-le size (drop at bytes) (simp length-drop (omega arith))

    spelled : (o k : ℕ) → o + k ≤ size → part o k l ≡ bytes_of k (little (take k (drop (at + o) bytes)))
    spelled o k g = part-part at size o k bytes g ∙ sym (part-spelled bytes b (at + o) k (omega arith))

    last-spelled : drop 18 l ≡ cond (eqb v 1) [] (bytes_of 8 (cond (eqb v 1) half (pattern_at bytes (at + 18))))
    last-spelled =
        (elim (eqb v 1) as (λ t. eqb v 1 ≡ t → drop 18 l ≡ cond t [] (bytes_of 8 (cond t half (pattern_at bytes (at + 18))))) [
          | true ↦ λ x. let y : length l ≡ 18 = l-long ∙ rw x in drop_of_length-le l {i = 18} (omega arith)
          | false ↦ λ x. let y : length l ≡ 26 = l-long ∙ rw x in sym (part-last 18 8 l (omega arith)) ∙ spelled 18 8 (rw x (omega arith))
        ])
        refl

    entry-spelled : l ≡ bytes_of_entry v (entry_from v bytes at)
    entry-spelled =
        let g : 18 ≤ size = entry-least v in
        let o : at + 0 ≡ at = omega arith in
        sym (take-append-drop 2 l)
        ∙ rw (spelled 0 2 (omega arith), o, ← part-joined 2 8 10 l refl, spelled 2 8 (omega arith), ← part-joined 10 8 18 l refl, spelled 10 8 (omega arith), last-spelled)

    entry-fits : Fits v (entry_from v bytes at)
    entry-fits =
        let g : 18 ≤ size = entry-least v in
        record {
          voice = word_below bytes b at;
          speed = part-below bytes b (at + 2) 8 (omega arith);
          weight = part-below bytes b (at + 10) 8 (omega arith);
          threshold = (elim (eqb v 1) as (λ t. eqb v 1 ≡ t → cond t half (pattern_at bytes (at + 18)) < 2 ^ 64) [ true ↦ λ x. omega arith | false ↦ λ x. part-below bytes b (at + 18) 8 (let y : size ≡ 26 = rw x in omega arith) ]) refl;
          first = λ x. rw (eq-eqb v 1 x);
        }

  -- number t
  there : (t : ℕ) → t < n → head_bytes + size * t + size ≤ length bytes
  there t h = omega (arith, parts.2, mul-le-mul_right size h, mul_comm size t, mul_comm size n, suc-mul t size)

  entry-at : (t : ℕ) → t < n → get_or (entries_of bytes) t nothing ≡ entry_at v bytes t
  unfolding entries_of
  entry-at t h = build-at (entry_at v bytes) n t nothing h

  es-long : length (entries_of bytes) ≡ n
  unfolding entries_of
  es-long = build-length (entry_at v bytes) n

  -- the file has room for what it says
  pub read-writable : Writable v (entries_of bytes)
  read-writable = record { known = parts.1; few = rw es-long (word_below bytes b 5); each = λ t h. let g : t < n = rw es-long at h in rw (entry-at t g) (entry-fits (head_bytes + size * t) (there t g)) }

  body : drop head_bytes bytes ≡ bytes_of_entries v (entries_of bytes)
  unfolding bytes_of_entries
  body =
      let m : List ℕ = drop head_bytes bytes in
      let e : drop (n * size) m ≡ [] = drop_of_length-le m {i = n * size} (simp length-drop (omega (arith, parts.2, mul_comm size n))) in
      sym (rows_cut size n m) ∙ rw (e, append-nil)
      (rows_same (λ t. part (t * size) size m) (λ t. bytes_of_entry v (get_or (entries_of bytes) t nothing)) n
      (λ t h. ap (take size) (drop-drop (t * size) head_bytes bytes) ∙ ap (λ (o : ℕ). part (head_bytes + o) size bytes) (mul_comm t size) ∙ entry-spelled (head_bytes + size * t) (there t h) ∙ ap (bytes_of_entry v) (sym (entry-at t h)))
      ∙ rw (← es-long) (sym (flatten_rows (bytes_of_entry v) nothing (entries_of bytes))))

  -- it is the file that says these records, in its version
  pub rewritten : bytes_of_file v (entries_of bytes) ≡ bytes
  unfolding bytes_of_file bytes_of_heading
  rewritten =
      let e : List ℕ = bytes_of_entries v (entries_of bytes) in
      ap (λ (x : List ℕ). mark ++ x) (append_assoc (bytes_of 2 v) (bytes_of 2 (length (entries_of bytes))) e
      ∙ rw (es-long, ← body, part-spelled bytes b 5 2 (omega (arith, parts.2)), part-joined 5 2 7 bytes refl, part-spelled bytes b 3 2 (omega (arith, parts.2)), part-joined 3 2 5 bytes refl))
      ∙ ap (λ (x : List ℕ). x ++ drop 3 bytes) (sym (starts_is mark bytes parts.0))
      ∙ take-append-drop 3 bytes
