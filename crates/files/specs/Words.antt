-- Words that a program is given.
use Rattle.std.specs.Prelude.{Bool, ◌&&◌, List, ℕ, eqb, length}
use Rattle.lists.specs.Bytes.{starts_with}

-- a word is a text: it begins with it, and is as long
abbrev pub is_text : List ℕ → List ℕ → Bool
is_text word text = eqb (length word) (length text) && starts_with text word
