use Rattle.lists.proofs.Firsts.{first-within}
use Rattle.settings.proofs.Places.{place-given}
use Rattle.settings.proofs.place_of.Goals as goal

pub returns : goal.returns
returns c = let a = c.args in place-given c.first_u32-place.result _ a.voices.now _ c.first_u32-place.ensures (first-within a.voice a.voices.now) c.then_some.ensures
