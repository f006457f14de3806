-- The records that are settled are as many as there are different voices.
use mathlib.Core.Path.{◌≡◌, refl, sym, ap, ◌∙◌}
use mathlib.Core.Bool.{Bool, true, false, ◌&&◌}
use mathlib.Core.Logic.{⊎_elim}
use mathlib.Core.List.{List, [], ◌∷◌, ◌++◌, append_assoc, append-nil}
use Prim.Native.Nat.{ℕ, suc, ◌+◌, ◌*◌, ◌≤◌, ◌<◌}
use native.Mathlib.Omega.{arith}
use borrow.Author.Tests.{le-leb, eq-eqb, ne_eqb}
use lib.Dec.{leb}
use lib.ListN.{length, get_or, length-append, get_or-append}
use lib.Seq.{get_or-append-add}
use Rattle.lists.specs.Sizes.{most_voice}
use Rattle.lists.specs.Build.{build, fold_from}
use Rattle.lists.specs.Frames.{count}
use Rattle.lists.specs.Bytes.{Bytes}
use Rattle.lists.specs.Firsts.{first_at}
use Rattle.lists.proofs.Numbers.{le_or_lt, same_or_not}
use Rattle.lists.proofs.Spelled.{word_below}
use Rattle.lists.proofs.Fills.{build-length}
use Rattle.lists.proofs.Builds.{build-at, build-same}
use Rattle.lists.proofs.Counts.{count-append}
use Rattle.lists.proofs.Firsts.{first-within, first_is, first-before, first-left, first-right}
use Rattle.settings.specs.Store.{free, holds_at, holding, held_in, Entry}
use Rattle.settings.specs.Format.{count_of, version_of, entry_bytes, entry_at, entries_of, put_entry, settled}
use Rattle.settings.specs.Written.{nothing}
use Rattle.settings.proofs.Gathering.{names, names-long, names-put, names_more, put-behind}

-- records whose numbers are voices'
abbrev pub Numbers : List Entry → Type 0
Numbers es = (i : ℕ) → i < length es → (get_or es i nothing).voice ≤ most_voice

-- a number stands in a list
abbrev In : ℕ → List ℕ → Type 0
In v xs = first_at v xs < length xs

longer : (xs : List ℕ) (w : ℕ) → length (xs ++ (w ∷ [])) ≡ suc (length xs)
longer xs w = length-append xs (w ∷ []) ∙ omega arith

-- and in that list with one more, or is that one
in_more : (v w : ℕ) (xs : List ℕ) → In v xs → In v (xs ++ (w ∷ []))
in_more v w xs h = omega (arith, first-left v xs (w ∷ []) h, longer xs w)

in_last : (w : ℕ) (xs : List ℕ) → In w (xs ++ (w ∷ []))
unfolding first_at
in_last w xs = ⊎_elim
    (λ (h : length xs ≤ first_at w xs).
    let e : first_at w (w ∷ []) ≡ 0 = rw (eq-eqb w w refl) in
    omega (arith, first-right w xs (w ∷ []) (omega (arith, first-within w xs)), longer xs w))
    (λ (h : first_at w xs < length xs). in_more w w xs h)
    (le_or_lt (length xs) (first_at w xs))

in_less : (v w : ℕ) (xs : List ℕ) → (w ≡ v → ⊥) → In v (xs ++ (w ∷ [])) → In v xs
unfolding first_at
in_less v w xs d h = ⊎_elim
    (λ (g : length xs ≤ first_at v xs).
    let e : first_at v (w ∷ []) ≡ 1 = rw (ne_eqb w v d) in
    absurd (omega (arith, first-right v xs (w ∷ []) (omega (arith, first-within v xs)), longer xs w)))
    (λ (g : first_at v xs < length xs). g)
    (le_or_lt (length xs) (first_at v xs))

-- ---- how many numbers are held, with one number more

and_false : (b : Bool) → b && false ≡ false
and_false true = refl
and_false false = refl

module _ (xs : List ℕ) (w : ℕ) where
  abbrev ys : List ℕ
  ys = xs ++ (w ∷ [])

  same-before : (j : ℕ) → j < length xs → holds_at ys j ≡ holds_at xs j
  same-before j h =
      let v : ℕ = get_or xs j free in
      let g : get_or ys j free ≡ v = get_or-append xs (w ∷ []) free j h in
      let i : In v xs = ⊎_elim (λ (k : first_at v xs ≤ j). omega arith) (λ (k : j < first_at v xs). absurd (first-before v xs j free k refl)) (le_or_lt (first_at v xs) j) in
      rw (g, first-left v xs (w ∷ []) i)

  last-there : get_or ys (length xs) free ≡ w
  last-there = let o : length xs ≡ length xs + 0 = omega arith in ap (λ (i : ℕ). get_or ys i free) o ∙ get_or-append-add xs (w ∷ []) 0 free

  held_more : held_in ys ≡ held_in xs + count (holds_at ys (length xs) ∷ [])
  unfolding holding build
  held_more =
      ap (λ (n : ℕ). count (build (holds_at ys) n)) (longer xs w)
      ∙ count-append (build (holds_at ys) (length xs)) (holds_at ys (length xs) ∷ [])
      ∙ ap (λ (l : List Bool). count l + count (holds_at ys (length xs) ∷ [])) (build-same (holds_at ys) (holds_at xs) (length xs) same-before)

  -- a number that was there
  held_again : In w xs → held_in ys ≡ held_in xs
  unfolding count
  held_again h =
      let e : holds_at ys (length xs) ≡ false = rw (last-there, first-left w xs (w ∷ []) h, ne_eqb (first_at w xs) (length xs) (λ q. omega arith)) (and_false (leb w most_voice)) in
      held_more ∙ rw e (omega arith)

  -- and a new one
  held_new : w ≤ most_voice → (In w xs → ⊥) → held_in ys ≡ suc (held_in xs)
  unfolding count first_at
  held_new m d =
      let n : first_at w xs ≡ length xs = ⊎_elim (λ (k : length xs ≤ first_at w xs). omega (arith, first-within w xs)) (λ (k : first_at w xs < length xs). absurd (d k)) (le_or_lt (length xs) (first_at w xs)) in
      let f : first_at w (w ∷ []) ≡ 0 = rw (eq-eqb w w refl) in
      let g : first_at w ys ≡ length xs = first-right w xs (w ∷ []) n ∙ omega (arith, f) in
      let e : holds_at ys (length xs) ≡ true = rw (last-there, g, le-leb w most_voice m, eq-eqb (length xs) (length xs) refl) in
      held_more ∙ rw e (omega arith)

-- ---- record by record

-- the voices of the records so far, and the records as they are settled
record Settling (xs : List ℕ) (got : List Entry) : Type 0 where
  many : length got ≡ held_in xs
  there : (v : ℕ) → In v xs → In v (names got)
  back : (v : ℕ) → In v (names got) → In v xs

settle-next : (xs : List ℕ) (got : List Entry) (x : Entry) → x.voice ≤ most_voice → Settling xs got → Settling (xs ++ (x.voice ∷ [])) (put_entry got x)
settle-next xs got x m k =
    let w : ℕ = x.voice in
    ⊎_elim
    (λ (h : length (names got) ≤ first_at w (names got)).
    let q : first_at w (names got) ≡ length got = omega (arith, first-within w (names got), names-long got) in
    let n : names (put_entry got x) ≡ names got ++ (w ∷ []) = ap names (put-behind got x q) ∙ names_more got x in
    let d : In w xs → ⊥ = λ (i : In w xs). (let j : In w (names got) = k.there w i in omega arith) in
    record {
      many = sym (names-long (put_entry got x)) ∙ ap length n ∙ longer (names got) w ∙ ap suc (names-long got ∙ k.many) ∙ sym (held_new xs w m d);
      there = λ v i. rw n (⊎_elim (λ (e : w ≡ v). rw (← e) (in_last w (names got))) (λ e. in_more v w (names got) (k.there v (in_less v w xs e i))) (same_or_not w v));
      back = λ v i. ⊎_elim (λ (e : w ≡ v). rw (← e) (in_last w xs)) (λ e. in_more v w xs (k.back v (in_less v w (names got) e (rw n at i)))) (same_or_not w v);
    })
    (λ (h : first_at w (names got) < length (names got)).
    let n : names (put_entry got x) ≡ names got = names-put got x (first_at w (names got)) (rw (names-long got) at h) (first_is w (names got) free h) in
    record {
      many = sym (names-long (put_entry got x)) ∙ ap length n ∙ names-long got ∙ k.many ∙ sym (held_again xs w (k.back w h));
      there = λ v i. rw n (⊎_elim (λ (e : w ≡ v). rw (← e) h) (λ e. k.there v (in_less v w xs e i)) (same_or_not w v));
      back = λ v i. in_more v w xs (k.back v (rw n at i));
    })
    (le_or_lt (length (names got)) (first_at w (names got)))

settle-all : (es got : List Entry) (xs : List ℕ) → Numbers es → Settling xs got → length (fold_from put_entry got es) ≡ held_in (xs ++ names es)
unfolding fold_from
settle-all [] got xs m k = k.many ∙ ap held_in (sym (append-nil xs))
settle-all (x ∷ es) got xs m k = settle-all es (put_entry got x) (xs ++ (x.voice ∷ [])) (λ i h. m (suc i) (omega arith)) (settle-next xs got x (m 0 (omega arith)) k) ∙ ap held_in (append_assoc xs (x.voice ∷ []) (names es))

-- RULES, Settings: as many as there are different voices
pub different_voices : (es : List Entry) → Numbers es → length (settled es) ≡ held_in (names es)
unfolding settled holding build count first_at
different_voices es m = settle-all es [] [] m (record { many = refl; there = λ v h. absurd (omega arith); back = λ v h. absurd (omega arith) })

-- each number of a record is one that a voice can have
pub file-numbers : (bytes : List ℕ) → Bytes bytes → Numbers (entries_of bytes)
unfolding entries_of
file-numbers bytes b i h =
    let g : i < count_of bytes = rw (build-length (entry_at (version_of bytes) bytes) (count_of bytes)) at h in
    rw (build-at (entry_at (version_of bytes) bytes) (count_of bytes) i nothing g) (let l = word_below bytes b (7 + entry_bytes (version_of bytes) * i) in omega arith)
