-- The tally of a replay.
use Rattle.std.specs.Prelude.{ℕ, ◌+◌, ◌-◌, ◌^◌, min, Bool, true, false, cond, eqb}
use Rattle.replay.specs.declared.Tally.{Tally}

-- nothing was replayed yet
abbrev pub fresh : Tally
fresh = record { seen = 0; differ = 0; first = 0; ended = false }

-- a count goes up by 1, and stays at the largest number of 64 bits
abbrev pub one_more : ℕ → ℕ
one_more n = min (n + 1) (2 ^ 64 - 1)

-- the tally with one case more: only one that differs is counted as such, and only the first of these is remembered
unfoldable pub counted : Tally → Bool → Tally
counted t true = record { seen = one_more t.seen; differ = t.differ; first = t.first; ended = t.ended }
counted t false =
    record {
      seen = one_more t.seen;
      differ = one_more t.differ;
      first = cond (eqb t.differ 0) (one_more t.seen) t.first;
      ended = t.ended;
    }

-- the tally where no case can be read any more
abbrev pub closed : Tally → Tally
closed t = record { seen = t.seen; differ = t.differ; first = t.first; ended = true }
