use Rattle.std.proofs.Common.{min}
use Rattle.std.proofs.lemmas.List.Edits.{sets}
use Rattle.lists.specs.Bytes.{bytes_of}
use Rattle.lists.proofs.Bytes.{Writing}
use Rattle.lists.proofs.put_little_endian.Given as goal

abbrev pub invariant-loop-i : goal.invariant-loop-i
invariant-loop-i l = Writing (sets l.initial.bytes l.at (bytes_of (min l.width 8) l.number)) l.bytes l.at (min l.width 8) l.i l.rest
