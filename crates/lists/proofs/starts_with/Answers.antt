use Prim.Native.Nat.{ℕ}
use mathlib.Core.Path.{ap}
use lib.Dec.{eqb}
use lib.ListN.{length}
use Rattle.lists.specs.Bytes.{starts_with}
use Rattle.lists.proofs.starts_with.Goals as goal

pub returns : goal.returns
unfolding starts_with
returns c = ap (λ (n : ℕ). eqb n (length c.args.front.now)) c.alike.ensures
