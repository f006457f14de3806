-- By a law, as the prover can't count so many zeros.
use Rattle.std.proofs.Common.{◌≡◌, ℕ, length, sym}
use lib.ListN.{replicate, length-replicate}
use Rattle.voices.specs.Reading.{file_room}
use Rattle.voices.proofs.room.Goals as goal

zeros : (n : ℕ) → n ≡ length {A = ℕ} (replicate n 0)
zeros n = sym (length-replicate n 0)

pub returns : goal.returns
returns c = zeros file_room
