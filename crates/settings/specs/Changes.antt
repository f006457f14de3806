-- A store when it is cleared, and when a voice is set or removed.
use Rattle.std.specs.Prelude.{cond, List, [], ◌∷◌, ℕ, ◌*◌, set, replicate}
use Rattle.std.proofs.lemmas.List.Edits.{sets}
use Rattle.lists.specs.Sizes.{most_voices}
use Rattle.lists.specs.Firsts.{first_at, replaced}
use Rattle.settings.specs.declared.Settings.{Settings}
use Rattle.settings.specs.Store.{Store, store_settings, store, free, is_held, free_place, in_order}

-- RULES, Settings: every place is free, with zeros
abbrev pub empty : Store
empty = store (replicate most_voices free) (replicate store_settings 0)

-- RULES, Settings: where a voice is held, its place; where it isn't, the first free one
abbrev pub place_for : ℕ → List ℕ → ℕ
place_for voice voices = cond (is_held voice voices) (first_at voice voices) (free_place voices)

-- RULES, Settings: its settings are replaced in its place, or it takes the first free one
unfoldable pub set_in : ℕ → Settings → Store → Store
set_in voice given s = let p = place_for voice s.voices in store (set s.voices p voice) (sets s.settings (3 * p) (in_order given))

-- RULES, Settings: its place becomes free, as clear makes it, and every later place with its number gets that number too
unfoldable pub remove_in : ℕ → Store → Store
remove_in voice s = store (replaced voice free s.voices) (sets s.settings (3 * first_at voice s.voices) (0 ∷ 0 ∷ 0 ∷ []))
