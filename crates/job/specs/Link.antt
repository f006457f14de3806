-- The serial link: what a link's memory says.
use Rattle.std.specs.Prelude.{Bool, true, false, cond, ◌||◌, List, ◌++◌, ℕ, ◌+◌, ◌-◌, ltb, eqb, length, take, drop}
use Rattle.lists.specs.Sizes.{most_job_states}
use Rattle.lists.specs.Refusals.{or_else}
use Rattle.lists.specs.Bytes.{little, bytes_of}
use Rattle.job.specs.Format.{length_of}

-- RULES, Serial link: the first eight bytes are a number, and behind it is room for one byte more than the largest job has
abbrev pub head_bytes : ℕ
head_bytes = 8

abbrev pub link_room : ℕ
link_room = length_of 2 most_job_states + 1

abbrev pub link_bytes : ℕ
link_bytes = head_bytes + link_room

-- RULES, Serial link: the number is 0 where no job is under way, else one more than that of the bytes that have come
abbrev pub stage : Bool → ℕ → ℕ
stage false came = 0
stage true came = came + 1

-- what then stands in front: the number alone, or the number and the bytes
abbrev pub idle : List ℕ
idle = bytes_of head_bytes (stage false 0)

unfoldable pub under_way : List ℕ → List ℕ
under_way bytes = bytes_of head_bytes (stage true (length bytes)) ++ bytes

-- RULES, Serial link: the least byte stands first; every content of the memory has a meaning
abbrev pub stage_of : List ℕ → ℕ
stage_of link = little (take head_bytes link)

-- RULES, Serial link: 0, and also a number above 20,497, says that no job is under way
unfoldable pub has_ended : List ℕ → Bool
has_ended link = eqb (stage_of link) 0 || ltb (stage true link_room) (stage_of link)

-- the bytes that have come
unfoldable pub came_in : List ℕ → List ℕ
came_in link = take (stage_of link - 1) (drop head_bytes link)

-- RULES, Serial link: a memory shorter than 20,504 bytes is refused with 6
unfoldable pub begin_refusal : List ℕ → ℕ
begin_refusal link = cond (ltb (length link) link_bytes) 6 0

-- RULES, Serial link: a part and an end are refused with 11 where no job is under way, and then as begin is
unfoldable pub link_refusal : List ℕ → ℕ
link_refusal link = or_else (cond (has_ended link) 11 0) (begin_refusal link)
