-- What is wrong with a job file, and at which byte.
use Rattle.std.specs.Prelude.{Result, Ok, Err, Bool, cond, ◌||◌, List, ℕ, ◌+◌, min, ltb, eqb, length}
use Rattle.lists.specs.Sizes.{most_job_states}
use Rattle.lists.specs.Bytes.{alike, word_at}
use Rattle.job.specs.declared.Damage.{Damage}
use Rattle.job.specs.declared.Damage.TheVariants.{Mark, Version, Count, Length}
use Rattle.job.specs.declared.finding.Wrong.{Wrong}
use Rattle.job.specs.Format.{mark, whole_of}

-- what is found of a file: nothing, or a damage at a place
abbrev pub Found : Type 0
Found = Result (Unit {0}) Wrong

abbrev pub sound : Found
sound = Ok tt

abbrev pub wrong : Damage → ℕ → Found
wrong what at = Err (record { damage = what; place = at })

-- the first that is found, or where that is nothing the next
abbrev pub else_found : Found → Found → Found
else_found (Ok none) next = next
else_found (Err w) next = Err w

-- RULES, Job file: a file that ends before a field's last byte is told there, whatever it has of that field; else what is found of the field
abbrev pub found_to : ℕ → List ℕ → Found → Found
found_to end bytes field = cond (ltb (length bytes) end) (wrong Length (length bytes)) field

-- RULES, Job file: a byte of the mark is wrong, and the first that is has the place; each byte is a field
abbrev pub mark_found : List ℕ → Found
mark_found bytes = let i = alike mark bytes in cond (ltb i (length mark)) (found_to (i + 1) bytes (wrong Mark i)) sound

-- RULES, Job file: the 16 bits at a place are less or more than they may be
abbrev pub word_found : ℕ → ℕ → ℕ → Damage → List ℕ → Found
word_found at least most what bytes = let w = word_at bytes at in found_to (at + 2) bytes (cond (ltb w least || ltb most w) (wrong what at) sound)

-- RULES, Job file: the file ends short, or goes on behind its last state: the place is its length, or the first byte too many
abbrev pub length_found : List ℕ → Found
length_found bytes = let whole = whole_of bytes in cond (eqb (length bytes) whole) sound (wrong Length (min (length bytes) whole))

-- RULES, Job file: the order is by place: the mark, the version at 3, which is 1 or 2, the number of states at 5, the length
unfoldable pub damage_of : List ℕ → Found
damage_of bytes =
    else_found (mark_found bytes)
    (else_found (word_found 3 1 2 Version bytes)
    (else_found (word_found 5 0 most_job_states Count bytes)
    (length_found bytes)))

-- RULES, Job file: the number of each
abbrev pub damage_number : Damage → ℕ
damage_number Mark = 12
damage_number Version = 13
damage_number Count = 14
damage_number Length = 9

-- RULES, Job file: the old number is 9 for 9, 12, 13 and 14, and every other number as it is
abbrev pub is_damage : ℕ → Bool
is_damage k = eqb k 9 || (eqb k 12 || (eqb k 13 || eqb k 14))

unfoldable pub old_number : ℕ → ℕ
old_number k = cond (is_damage k) 9 k
