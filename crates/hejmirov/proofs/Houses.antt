-- Houses don't see each other's calls, by the calls for C.
use mathlib.Core.Path.{◌≡◌, sym, ap, subst, ◌∙◌}
use mathlib.Core.List.{List}
use Prim.Native.Nat.{ℕ}
use lib.Ieee.{Float}
use Rattle.std.specs.Prelude.{Result, Ok}
use Rattle.lists.specs.Ends.{counted, spanned, refused}
use Rattle.lists.specs.declared.Refusal.{Refusal}
use Rattle.lists.specs.declared.Span.{Span}
use Rattle.lists.proofs.Ends.{accepted_ok}
use Rattle.houses.specs.Slots.{Table}
use Rattle.houses.specs.Changes.{SameSets}
use Rattle.houses.specs.Promise.{StartSays}
use Rattle.houses.specs.Calls.{Asked, Told, changed, told_used, told_count, Makes, Call, Run, own_calls, asked_in, Alike}
use Rattle.houses.specs.Calls as below
use Rattle.houses.specs.Apart.{ToldTheSame, ChangesItsOwn, Apart}
use Rattle.houses.proofs.Unwinding.{told_the_same, changes-its-own}
use Rattle.houses.proofs.Apart.{apart}
use Rattle.houses.proofs.Started.{started-alike}
use Rattle.hejmirov.specs.Houses.{TableStartCallSays, CallAsked, CallTold, number, CallMakes, set_made, clear_made, use_made, free_made}
use Rattle.hejmirov.proofs.One.{hands_one, hands_two}

-- ---- one call: what is told is the answer of the call below it

same_change : {a b : Result (Unit {0}) Refusal} → changed a ≡ changed b → a ≡ b
same_change e = cc

same_use : {a b : Result Span Refusal} {v w : List ℕ} → told_used a v ≡ told_used b w → (a ≡ b) × (v ≡ w)
same_use e = (cc, cc)

same_count : {a b : Result ℕ Refusal} → told_count a ≡ told_count b → a ≡ b
same_count e = cc

pub calls-told : ToldTheSame CallMakes
calls-told house asked x y t u t' u' a (set_made f) (set_made g) =
    let (e, l) = told_the_same house _ _ _ t u t' u' a (below.set_made f.says) (below.set_made g.says) in
    (ap number (f.gives ∙ ap refused (same_change e) ∙ sym g.gives), l)
calls-told house asked x y t u t' u' a (clear_made f) (clear_made g) =
    let (e, l) = told_the_same house _ _ _ t u t' u' a (below.clear_made f.says) (below.clear_made g.says) in
    (ap number (f.gives ∙ ap refused (same_change e) ∙ sym g.gives), l)
calls-told house asked x y t u t' u' a (use_made {first = first} {count} {r} {first'} {count'} f) (use_made {r = q} {first' = first''} {count' = count''} g) =
    let (e, l) = told_the_same house _ _ _ t u t u a (below.use_made f.says) (below.use_made g.says) in
    let (i, w) = same_use e in
    let (n, m, k) = hands_two _ _ first count r q first' count' first'' count'' (ap spanned i) f.gives g.gives in
    (rw (n, m, w, k), l)
calls-told house asked x y t u t' u' a (free_made {free = free} {r} {free'} f) (free_made {r = q} {free' = free''} g) =
    let (e, l) = told_the_same house _ _ _ t u t u a (below.free_made f.says) (below.free_made g.says) in
    let (n, m) = hands_one _ _ free r q free' free'' (ap counted (same_count e)) f.gives g.gives in
    (rw (n, m), l)

-- ---- and it changes what that call changes

record Below (t : Table) (house : ℕ) (t' : Table) : Type 0 where
  asked : Asked
  told : Told
  made : Makes t house asked told t'

made-below : {t t' : Table} {house : ℕ} {asked : CallAsked} {told : CallTold} → CallMakes t house asked told t' → Below t house t'
made-below (set_made f) = record { asked = _; told = _; made = below.set_made f.says }
made-below (clear_made f) = record { asked = _; told = _; made = below.clear_made f.says }
made-below (use_made f) = record { asked = _; told = _; made = below.use_made f.says }
made-below (free_made f) = record { asked = _; told = _; made = below.free_made f.says }

pub calls_change : ChangesItsOwn CallMakes
calls_change = record {
  room = λ house asked x t t' c. let b = made-below c in changes-its-own.room house b.asked b.told t t' b.made;
  slots = λ house asked x t t' c. let b = made-below c in changes-its-own.slots house b.asked b.told t t' b.made;
}

-- RULES, Houses, the claim, of the calls for C
pub calls-apart : Apart CallMakes
calls-apart = apart CallMakes calls-told calls_change

-- and of tables that two such calls have started with the same sets, whatever they held
module _ {t u t' u' : Table} (common : ℕ) (ws vs : List ℕ) (cs : List Float) (a : TableStartCallSays t common ws cs 0 t') (b : TableStartCallSays u common vs cs 0 u') (same : SameSets common ws vs) where
  done : {t t' : Table} {ws : List ℕ} → TableStartCallSays t common ws cs 0 t' → StartSays t common ws cs (Ok tt) t'
  done {t} {t'} {ws} c = subst (λ (x : Result (Unit {0}) Refusal). StartSays t common ws cs x t') (accepted_ok c.answer (sym c.gives)) c.says

  pub calls-start-alike : (house : ℕ) → Alike house t' u'
  calls-start-alike = started-alike common ws vs cs (done a) (done b) same

  pub calls-start-apart : (house : ℕ) (t'' u'' : Table) (xs ys : List (Call CallAsked CallTold)) → Run CallMakes t' xs t'' → Run CallMakes u' ys u'' → asked_in (own_calls house xs) ≡ asked_in (own_calls house ys)
      → (own_calls house xs ≡ own_calls house ys) × Alike house t'' u''
  calls-start-apart house t'' u'' xs ys = calls-apart house t' u' t'' u'' xs ys (calls-start-alike house)
