-- Get after set gives the same floats.
use mathlib.Core.Path.{◌≡◌, sym, ap, subst, ◌∙◌}
use mathlib.Core.List.{List}
use Prim.Native.Nat.{ℕ}
use lib.Dec.{T}
use lib.Ieee.{Float, binary64, fits}
use lib.Ieee.Bits.{of_bits-to_bits}
use Rattle.std.specs.Prelude.{Result, Ok}
use Rattle.lists.specs.declared.Refusal.{Refusal}
use Rattle.lists.proofs.Ends.{accepted_ok}
use Rattle.settings.specs.declared.Settings.{Settings}
use Rattle.settings.specs.Promise.{SetSays}
use Rattle.settings.proofs.Laws.{get_set}
use Rattle.hejmirov.specs.Settings.{bits_of, got_number, handed_float, SettingsSetCallSays, SettingsGetCallSays}

-- RULES, Settings: whatever the store holds; every f64 fits
module _ (voices settings : List ℕ) (voice : ℕ) (speed weight threshold : Float) (voices' settings' : List ℕ) (set : SettingsSetCallSays voices settings voice speed weight threshold 0 voices' settings')
    (s : T (fits binary64 speed)) (w : T (fits binary64 weight)) (t : T (fits binary64 threshold)) (a b c : Float) (r : ℕ) (a' b' c' : Float) (get : SettingsGetCallSays voices' settings' voice a b c r a' b' c') where
  done : SetSays voices settings voice (bits_of speed weight threshold) (Ok tt) voices' settings'
  done = subst (λ (x : Result (Unit {0}) Refusal). SetSays voices settings voice (bits_of speed weight threshold) x voices' settings') (accepted_ok set.answer (sym set.gives)) set.says

  held : get.answer ≡ Ok (bits_of speed weight threshold)
  held = get_set voices settings voice (bits_of speed weight threshold) voices' settings' done get.answer get.says

  pub set_get : (r ≡ 0) × (a' ≡ speed) × (b' ≡ weight) × (c' ≡ threshold)
  set_get = (
    get.gives.answers ∙ ap got_number held,
    get.gives.first ∙ ap (λ (x : Result Settings Refusal). handed_float x (λ y. y.speed) a) held ∙ of_bits-to_bits binary64 speed s,
    get.gives.second ∙ ap (λ (x : Result Settings Refusal). handed_float x (λ y. y.weight) b) held ∙ of_bits-to_bits binary64 weight w,
    get.gives.third ∙ ap (λ (x : Result Settings Refusal). handed_float x (λ y. y.threshold) c) held ∙ of_bits-to_bits binary64 threshold t,
  )
