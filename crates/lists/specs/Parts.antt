-- Parts of a list, and of a lent list that are handed back.
use Rattle.std.specs.Prelude.{◌≡◌, List, ℕ, ◌+◌, ◌*◌, min, length, take, drop}
use Rattle.std.specs.Borrow.{Bor}

-- n items from place o on
abbrev pub part : {A : Type 0} → ℕ → ℕ → List A → List A
part o n xs = take n (drop o xs)

-- as many as count items from a place on, as far as there are any, and where they lie: in the list's own memory at size bytes an item, and at its end where the place is past that
pub record PartSays {A : Type 0} (size : ℕ) (s : Bor (List A)) (from count : ℕ) (r : Bor (List A)) : Type 0 where
  pub numbers : r.now ≡ take count (drop from s.now)
  pub itself : r.ref_ptr ≡ (s.ref_ptr.0, s.ref_ptr.1 + min from (length s.now) * size)
