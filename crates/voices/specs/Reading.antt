-- What is read of a file.
use Rattle.std.specs.Prelude.{ℕ}

-- one byte more than the largest file has
abbrev pub file_room : ℕ
file_room = 1703918
