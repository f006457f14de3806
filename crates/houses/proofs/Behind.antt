-- What lies behind the slots is not touched.
use mathlib.Core.Path.{◌≡◌, refl}
use mathlib.Core.List.{List, []}
use Prim.Native.Nat.{ℕ, ◌*◌, ◌<◌}
use native.Mathlib.Omega.{arith}
use lib.Ieee.{Float}
use Rattle.lists.specs.Sizes.{most_windows, most_set_taps, slot_count}
use Rattle.std.proofs.Common.{Result}
use Rattle.lists.specs.declared.Refusal.{Refusal}
use Rattle.lists.proofs.Regions.{dropped_before}
use Rattle.lists.proofs.Answers.{given-either}
use Rattle.houses.specs.Slots.{Table, Slot}
use Rattle.houses.specs.Changes.{put_in, row_length, SameBehind}
use Rattle.houses.specs.Promise.{ChangesTo, StartSays}
use Rattle.houses.specs.Calls.{Asked, Told, Makes, set_made, clear_made, use_made, free_made}
use Rattle.houses.proofs.Accepting.{set-accepted, clear_accepted}
use Rattle.houses.proofs.Whose.{own-within}
use Rattle.houses.proofs.Putting.{Sized, holding-sized}
use Rattle.houses.proofs.Started.{started-behind}

-- a call that changes the table only where it isn't refused
changes-behind : {k : ℕ} {new t t' : Table} {r : Result (Unit {0}) Refusal} → (k ≡ 0 → SameBehind new t) → ChangesTo k new t r t' → SameBehind t' t
changes-behind {k} {new} {t} f c = rw c.left (given-either (λ u. SameBehind u t) k new t f (refl, refl))

-- a slot that is put into the table
put-behind : (s : ℕ) (x : Slot) (t : Table) → Sized x → s < slot_count → SameBehind (put_in s x t) t
unfolding put_in
put-behind s x t z h = (
  dropped_before x.widths t.widths (slot_count * most_windows) (s * most_windows) (omega (arith, z.widths)),
  dropped_before x.coefficients t.coefficients (slot_count * most_set_taps) (s * most_set_taps) (omega (arith, z.coefficients)),
)

-- RULES, Houses: what lies behind is not touched, by start
pub start-behind : {t t' : Table} {r : Result (Unit {0}) Refusal} (common : ℕ) (ws : List ℕ) (cs : List Float) → StartSays t common ws cs r t' → SameBehind t' t
start-behind {t} common ws cs = changes-behind (λ e. started-behind (row_length common ws) ws cs t)

-- nor by any other call
pub makes_behind : {house : ℕ} {asked : Asked} {x : Told} {t t' : Table} → Makes t house asked x t' → SameBehind t' t
makes_behind {house} {t = t} (set_made {s = s} {widths} {coefficients} c) = changes-behind (λ e. put-behind s _ t (holding-sized widths coefficients) (own-within house s (set-accepted t house s widths coefficients e).own)) c
makes_behind {house} {t = t} (clear_made {s = s} c) = changes-behind (λ e. put-behind s _ t (holding-sized [] []) (own-within house s (clear_accepted t house s e).own)) c
makes_behind (use_made c) = (refl, refl)
makes_behind (free_made c) = (refl, refl)
