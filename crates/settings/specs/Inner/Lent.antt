-- A store as src/ lends it to be read.
use Rattle.settings.specs.declared.store.Store.{Store as Lent}
use Rattle.settings.specs.Store.{Store, store}

-- the numbers and the settings that it lends
abbrev pub lent : Lent → Store
lent s = store s.voices.now s.settings.now
