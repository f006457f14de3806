-- Houses don't see each other's calls.
use mathlib.Core.Path.{◌≡◌, refl, sym, subst, ◌∙◌}
use mathlib.Core.Bool.{true}
use mathlib.Core.List.{List, [], ◌∷◌}
use mathlib.Core.Logic.{◌≢◌}
use Prim.Native.Nat.{ℕ}
use native.Mathlib.Omega.{arith}
use borrow.Author.Tests.{eq-eqb, ne_eqb}
use Rattle.lists.proofs.Numbers.{by_place}
use Rattle.houses.specs.Slots.{Table, slot_at, is_common}
use Rattle.houses.specs.Calls.{Makes, Call, call, Run, none, call_then, own_calls, asked_in, Alike}
use Rattle.houses.specs.Apart.{ToldTheSame, ChangesItsOwn, Apart}
use Rattle.houses.proofs.Whose.{common_none, may_none}
use Rattle.houses.proofs.Unwinding.{told_the_same, changes-its-own}

-- ---- tables that are alike to a house

-- a table is alike to itself
pub alike_self : (house : ℕ) (t : Table) → Alike house t t
alike_self house t = record { room = refl; slots = λ s m. refl }

module _ {house : ℕ} {t u : Table} (a : Alike house t u) where
  -- the other way round
  pub alike-back : Alike house u t
  alike-back = record { room = sym a.room; slots = λ s m. sym (a.slots s m) }

  -- and on to a third
  pub alike_then : {v : Table} → Alike house u v → Alike house t v
  alike_then b = record { room = a.room ∙ b.room; slots = λ s m. a.slots s m ∙ b.slots s m }

-- ---- runs

module _ {Ask Tell : Type 0} (M : Table → ℕ → Ask → Tell → Table → Type 0) where
  -- a run as a house sees it: before each call of its own, and at the end, a table that is alike to it
  data Seen (house : ℕ) : Table → List (Call Ask Tell) → Table → Type 0 where
    rest : {t t' : Table} → Alike house t t' → Seen house t [] t'
    own_then : {t u u' t' : Table} {asked : Ask} {told : Tell} {calls : List (Call Ask Tell)} → Alike house t u → M u house asked told u' → Seen house u' calls t' → Seen house t (call house asked told ∷ calls) t'

  -- it may begin with any table that is alike to it
  seen_from : {house : ℕ} {t u t' : Table} {calls : List (Call Ask Tell)} → Alike house t u → Seen house u calls t' → Seen house t calls t'
  seen_from a (rest b) = rest (alike_then a b)
  seen_from a (own_then b m r) = own_then (alike_then a b) m r

  module _ (c : ChangesItsOwn M) where
    -- another house's call leaves a table that is alike to it
    other-alike : {house other : ℕ} {asked : Ask} {told : Tell} {t t' : Table} → other ≢ house → M t other asked told t' → Alike house t t'
    other-alike {house} {other} {asked} {told} {t} {t'} d m = record {
      room = sym (c.room other asked told t t' m);
      slots = λ s u. sym (c.slots other asked told t t' m s (may_none house other s d u));
    }

    -- so it sees its own calls alone
    seen : (house : ℕ) {t t' : Table} {calls : List (Call Ask Tell)} → Run M t calls t' → Seen house t (own_calls house calls) t'
    unfolding own_calls
    seen house {t} none = rest (alike_self house t)
    seen house {t} (call_then {t' = t₁} {t''} {house = other} {asked} {told} {calls} m r) =
        by_place house (λ o. M t o asked told t₁ → Seen house t (own_calls house (call o asked told ∷ calls)) t'') other
        (λ d n. rw (ne_eqb other house d) (seen_from (other-alike d n) (seen house r)))
        (λ n. rw (eq-eqb house house refl) (own_then (alike_self house t) n (seen house r)))
        m

  module _ (same : ToldTheSame M) where
    -- two runs in which it asks the same, as it sees them
    seen_same : {house : ℕ} {t u t' u' : Table} {xs ys : List (Call Ask Tell)} → Alike house t u → Seen house t xs t' → Seen house u ys u' → asked_in xs ≡ asked_in ys → (xs ≡ ys) × Alike house t' u'
    unfolding asked_in
    seen_same a (rest b) (rest c) e = (refl, alike_then (alike-back b) (alike_then a c))
    seen_same a (rest b) (own_then c n r) e = absurd (let z : ◌≡◌ {A = ℕ} 0 1 = cc in omega arith)
    seen_same a (own_then b m q) (rest c) e = absurd (let z : ◌≡◌ {A = ℕ} 0 1 = cc in omega arith)
    seen_same {house} a (own_then {u = v} {u' = v'} {asked = asked} {told = x} b m q) (own_then {u = w} {u' = w'} {asked = asked'} {told = y} c n r) e =
        let k : Alike house v w = alike_then (alike-back b) (alike_then a c) in
        let p : asked ≡ asked' = cc in
        let o : M w house asked y w' = subst (λ (z : Ask). M w house z y w') (sym p) n in
        let (g, h) = same house asked x y v w v' w' k m o in
        let (f, l) = seen_same h q r (cc) in
        (rw (p, g, f), l)

    -- any two runs: the claim follows from its two halves, of one call
    pub apart : ChangesItsOwn M → Apart M
    apart c house t u t' u' xs ys a r q = seen_same a (seen c house r) (seen c house q)

  -- nobody changes a common slot
  pub run-keeps : ChangesItsOwn M → {t t' : Table} {calls : List (Call Ask Tell)} → Run M t calls t' → (s : ℕ) → is_common s ≡ true → slot_at t' s ≡ slot_at t s
  run-keeps c none s e = refl
  run-keeps c {t} (call_then {t' = t₁} {house = house} {asked} {told} m r) s e = run-keeps c r s e ∙ c.slots house asked told t t₁ m s (common_none house s e)

-- RULES, Houses, the claim, of the calls' promises
pub houses_apart : Apart Makes
houses_apart = apart Makes told_the_same changes-its-own
