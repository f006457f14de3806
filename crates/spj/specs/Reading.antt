-- What is read of a link.
use Rattle.std.specs.Prelude.{ℕ}

-- the most at once
abbrev pub piece_bytes : ℕ
piece_bytes = 512
