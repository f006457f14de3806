-- What set and remove do to the places of a store, whatever it holds.
use mathlib.Core.Path.{◌≡◌, refl, sym, ap, ◌∙◌}
use mathlib.Core.Bool.{true, false, ◌&&◌}
use mathlib.Core.Logic.{⊎_elim, ◌≢◌}
use mathlib.Core.List.{List}
use Prim.Native.Nat.{ℕ, suc, ◌+◌, ◌*◌, ◌≤◌, ◌<◌, min}
use native.Mathlib.Numerals.{add-one, add-two}
use native.Mathlib.Omega.{arith}
use borrow.Author.Tests.{le-leb, lt-leb, eq-eqb, ne_eqb, leb-true, eqb-true}
use lib.Dec.{leb, eqb}
use lib.ListN.{length, get_or, set, length-set}
use lib.Seq.{sets, get_or-set_same, get_or-set_other, set-get_or}
use Rattle.lists.specs.Sizes.{most_voice}
use Rattle.lists.specs.Firsts.{first_at, replaced}
use Rattle.lists.proofs.Numbers.{le_or_lt, same_or_not}
use Rattle.lists.proofs.Firsts.{first-within, first_is, first-before, first-at, first-none, length-replaced, replaced-at}
use Rattle.settings.specs.declared.Settings.{Settings}
use Rattle.settings.specs.Store.{free, holds_at, holding, first_off, free_place, in_order, settings_at}
use Rattle.settings.specs.Changes.{place_for}
use Rattle.settings.proofs.Places.{off-there, on-before, off_at, holding-long, holding-at, own-place, free-place}

-- ---- a place that is the first of a voice holds it, and one that is free doesn't

pub holds-first : (voices : List ℕ) (v : ℕ) → v ≤ most_voice → first_at v voices < length voices → holds_at voices (first_at v voices) ≡ true
holds-first voices v m h = rw (first_is v voices free h, le-leb v most_voice m, eq-eqb (first_at v voices) (first_at v voices) refl)

pub free-there : (voices : List ℕ) → free_place voices < length voices → holds_at voices (free_place voices) ≡ false
free-there voices h =
    let l : first_off (holding voices) < length (holding voices) = rw (holding-long voices) h in
    sym (holding-at voices (free_place voices) true h) ∙ off-there (holding voices) l

-- a place that holds a voice is the first with its number
pub held_first : (voices : List ℕ) (i : ℕ) → holds_at voices i ≡ true → (get_or voices i free ≤ most_voice) × (first_at (get_or voices i free) voices ≡ i)
held_first voices i e =
    let v : ℕ = get_or voices i free in
    (elim (leb v most_voice) as (λ b. leb v most_voice ≡ b → b && eqb (first_at v voices) i ≡ true → (v ≤ most_voice) × (first_at v voices ≡ i)) [
      | true ↦ λ q g. (leb-true v most_voice q, eqb-true (first_at v voices) i g)
      | false ↦ λ q g. absurd (let z : ◌≡◌ {A = ℕ} 0 1 = cc in omega arith)
    ])
    refl
    e

-- RULES, Settings: so no voice is held twice
pub held-once : (voices : List ℕ) (i j : ℕ) → holds_at voices i ≡ true → holds_at voices j ≡ true → get_or voices i free ≡ get_or voices j free → i ≡ j
held-once voices i j e f g = sym (held_first voices i e).1 ∙ ap (λ (v : ℕ). first_at v voices) g ∙ (held_first voices j f).1

-- ---- set

module _ (voices : List ℕ) (v : ℕ) (h : place_for v voices < length voices) where
  abbrev p : ℕ
  p = place_for v voices

  -- a voice that is held stays where it is, and no number changes
  pub same_numbers : first_at v voices < length voices → set voices p v ≡ voices
  same_numbers g =
      let e : p ≡ first_at v voices = sym (own-place v voices g) in
      rw e (ap (set voices (first_at v voices)) (sym (first_is v voices free g)) ∙ set-get_or voices (first_at v voices) free)

  -- it is then where it was put
  pub set_there : first_at v (set voices p v) ≡ p
  set_there = ⊎_elim
      (λ (g : length voices ≤ first_at v voices).
      first-at v (set voices p v) p free (rw length-set h) (get_or-set_same voices p v free h)
      (λ j l e. first-before v voices j free (omega arith) (sym (get_or-set_other voices p j v free (λ q. omega arith)) ∙ e)))
      (λ (g : first_at v voices < length voices). ap (first_at v) (same_numbers g) ∙ own-place v voices g)
      (le_or_lt (length voices) (first_at v voices))

  -- and every other voice is where it was, or not there
  pub set_aside : (w : ℕ) → w ≢ v → w ≤ most_voice → first_at w (set voices p v) ≡ first_at w voices
  set_aside w d m = ⊎_elim
      (λ (g : length voices ≤ first_at v voices).
      let f : free_place voices ≡ p = free-place v voices g in
      let o : (j : ℕ) → j < first_at w voices → get_or (set voices p v) j free ≢ w = λ j l e. ⊎_elim
      (λ (q : j ≡ p). d (sym e ∙ ap (λ (i : ℕ). get_or (set voices p v) i free) q ∙ get_or-set_same voices p v free h))
      (λ (q : j ≢ p). first-before w voices j free l (sym (get_or-set_other voices p j v free q) ∙ e))
      (same_or_not j p) in
      ⊎_elim
      (λ (n : length voices ≤ first_at w voices).
      first-none w (set voices p v) free (λ j l. o j (omega (arith, rw length-set at l))) ∙ rw length-set (omega (arith, first-within w voices)))
      (λ (n : first_at w voices < length voices).
      let q : first_at w voices ≢ p = λ e. (let z : false ≡ true = sym (free-there voices (rw f h)) ∙ ap (holds_at voices) (f ∙ sym e) ∙ holds-first voices w m n in let y : ◌≡◌ {A = ℕ} 0 1 = cc in omega arith) in
      first-at w (set voices p v) (first_at w voices) free (rw length-set n) (get_or-set_other voices p (first_at w voices) v free q ∙ first_is w voices free n) o)
      (le_or_lt (length voices) (first_at w voices)))
      (λ (g : first_at v voices < length voices). ap (first_at w) (same_numbers g))
      (le_or_lt (length voices) (first_at v voices))

-- ---- settings that are put into a place

module _ (settings : List ℕ) (p : ℕ) (s : Settings) (h : 3 * p + 3 ≤ length settings) where
  abbrev one : List ℕ
  one = set settings (3 * p) s.speed

  abbrev two : List ℕ
  two = set one (suc (3 * p)) s.weight

  abbrev put : List ℕ
  put = sets settings (3 * p) (in_order s)

  -- the place has them, and every other place what it had
  pub put-there : settings_at put p ≡ s
  put-there =
      let a : get_or put (3 * p) 0 ≡ s.speed = get_or-set_other two (suc (suc (3 * p))) (3 * p) s.threshold 0 (λ q. omega arith) ∙ get_or-set_other one (suc (3 * p)) (3 * p) s.weight 0 (λ q. omega arith) ∙ get_or-set_same settings (3 * p) s.speed 0 (omega arith) in
      let b : get_or put (suc (3 * p)) 0 ≡ s.weight = get_or-set_other two (suc (suc (3 * p))) (suc (3 * p)) s.threshold 0 (λ q. omega arith) ∙ get_or-set_same one (suc (3 * p)) s.weight 0 (rw length-set (omega arith)) in
      let c : get_or put (suc (suc (3 * p))) 0 ≡ s.threshold = get_or-set_same two (suc (suc (3 * p))) s.threshold 0 (rw (length-set, length-set) (omega arith)) in
      rw (add-one, add-two, a, b, c)

  beside : (k : ℕ) → k ≢ 3 * p → k ≢ suc (3 * p) → k ≢ suc (suc (3 * p)) → get_or put k 0 ≡ get_or settings k 0
  beside k x y z = get_or-set_other two (suc (suc (3 * p))) k s.threshold 0 z ∙ get_or-set_other one (suc (3 * p)) k s.weight 0 y ∙ get_or-set_other settings (3 * p) k s.speed 0 x

  pub put_aside : (q : ℕ) → q ≢ p → settings_at put q ≡ settings_at settings q
  put_aside q d =
      let a : get_or put (3 * q) 0 ≡ get_or settings (3 * q) 0 = beside (3 * q) (λ e. d (omega arith)) (λ e. absurd (omega arith)) (λ e. absurd (omega arith)) in
      let b : get_or put (3 * q + 1) 0 ≡ get_or settings (3 * q + 1) 0 = beside (3 * q + 1) (λ e. absurd (omega arith)) (λ e. d (omega arith)) (λ e. absurd (omega arith)) in
      let c : get_or put (3 * q + 2) 0 ≡ get_or settings (3 * q + 2) 0 = beside (3 * q + 2) (λ e. absurd (omega arith)) (λ e. absurd (omega arith)) (λ e. d (omega arith)) in
      rw (a, b, c)

-- ---- remove

module _ (voices : List ℕ) (v : ℕ) (m : v ≤ most_voice) where
  abbrev without : List ℕ
  without = replaced v free voices

  -- what stands at a place then
  swapped : (j : ℕ) → j < length voices → get_or voices j free ≡ v → get_or without j free ≡ free
  swapped j l e = replaced-at v free voices j free l ∙ rw (eq-eqb (get_or voices j free) v e)

  kept : (j : ℕ) → j < length voices → get_or voices j free ≢ v → get_or without j free ≡ get_or voices j free
  kept j l d = replaced-at v free voices j free l ∙ rw (ne_eqb (get_or voices j free) v d)

  -- its number stands nowhere
  pub gone : first_at v without ≡ length without
  gone = first-none v without free (λ j l e. let b : j < length voices = rw (length-replaced v free voices) at l in ⊎_elim
      (λ (q : get_or voices j free ≡ v). let z : free ≡ v = sym (swapped j b q) ∙ e in omega arith)
      (λ (q : get_or voices j free ≢ v). q (sym (kept j b q) ∙ e))
      (same_or_not (get_or voices j free) v))

  -- a voice that is another is where it was, or not there
  pub left : (w : ℕ) → w ≢ v → w ≤ most_voice → first_at w without ≡ first_at w voices
  left w d n =
      let o : (j : ℕ) → j < first_at w voices → get_or without j free ≢ w = λ j l e. (let b : j < length voices = omega (arith, first-within w voices) in ⊎_elim
      (λ (q : get_or voices j free ≡ v). let z : free ≡ w = sym (swapped j b q) ∙ e in omega arith)
      (λ (q : get_or voices j free ≢ v). first-before w voices j free l (sym (kept j b q) ∙ e))
      (same_or_not (get_or voices j free) v)) in
      ⊎_elim
      (λ (g : length voices ≤ first_at w voices). first-none w without free (λ j l. o j (omega (arith, rw (length-replaced v free voices) at l))) ∙ rw (length-replaced v free voices) (omega (arith, first-within w voices)))
      (λ (g : first_at w voices < length voices).
      let i : get_or voices (first_at w voices) free ≡ w = first_is w voices free g in
      first-at w without (first_at w voices) free (rw (length-replaced v free voices) g) (kept (first_at w voices) g (λ e. d (sym i ∙ e)) ∙ i) o)
      (le_or_lt (length voices) (first_at w voices))

  -- its place is free, and the others are as they were
  module _ (h : first_at v voices < length voices) where
    freed : holds_at without (first_at v voices) ≡ false
    freed = rw (swapped (first_at v voices) h (first_is v voices free h))

    still : (j : ℕ) → j < length voices → j ≢ first_at v voices → holds_at without j ≡ holds_at voices j
    still j l d = ⊎_elim
        (λ (q : get_or voices j free ≡ v). rw (swapped j l q, q, le-leb v most_voice m, ne_eqb (first_at v voices) j (λ e. d (sym e))))
        (λ (q : get_or voices j free ≢ v). ⊎_elim
        (λ (g : get_or voices j free ≤ most_voice). rw (kept j l q, left (get_or voices j free) q g))
        (λ (g : most_voice < get_or voices j free). rw (kept j l q, lt-leb (get_or voices j free) most_voice g))
        (le_or_lt (get_or voices j free) most_voice))
        (same_or_not (get_or voices j free) v)

    -- so the first free place is then this or an earlier one
    pub free-next : free_place without ≡ min (free_place voices) (first_at v voices)
    free-next =
        let n : ℕ = min (free_place voices) (first_at v voices) in
        let e : length without ≡ length voices = length-replaced v free voices in
        let l : length (holding without) ≡ length voices = holding-long without ∙ e in
        off_at (holding without) n true (omega (arith, l))
        (holding-at without n true (omega (arith, e)) ∙ ⊎_elim
        (λ (q : n ≡ first_at v voices). ap (holds_at without) q ∙ freed)
        (λ (q : n ≢ first_at v voices). let f : n ≡ free_place voices = omega arith in still n (omega arith) q ∙ ap (holds_at voices) f ∙ free-there voices (omega arith))
        (same_or_not n (first_at v voices)))
        (λ j b. holding-at without j true (omega (arith, e)) ∙ still j (omega arith) (λ q. omega arith) ∙ sym (holding-at voices j true (omega arith)) ∙ on-before (holding voices) j true (omega arith))
