use mathlib.Core.Path.{ap, ◌∙◌}
use Prim.Native.Nat.{ℕ}
use lib.Seq.{sets}
use Rattle.lists.specs.Bytes.{bytes_of}
use Rattle.lists.proofs.put_cut_u32.Goals as goal

pub returns : goal.returns
returns c = let a = c.args in c.put_little_endian.ensures ∙ ap (λ (n : ℕ). sets a.bytes.now a.at (bytes_of 4 n)) c.from.ensures
