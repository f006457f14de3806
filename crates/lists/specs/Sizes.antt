-- RULES, Sizes: the limits, each by its name.
use Rattle.std.specs.Prelude.{Bool, ◌||◌, ℕ, ltb}

-- windows of a set, and coefficients of a window
abbrev pub most_windows : ℕ
most_windows = 4

abbrev pub most_taps : ℕ
most_taps = 15

-- coefficients of a set: four windows of fifteen
abbrev pub most_set_taps : ℕ
most_set_taps = 60

-- numbers of a frame
abbrev pub most_components : ℕ
most_components = 64

-- states of an utterance, and of a label
abbrev pub most_states : ℕ
most_states = 4096

abbrev pub most_label_states : ℕ
most_label_states = 16

-- frames of an utterance
abbrev pub most_frames : ℕ
most_frames = 65536

-- states of a job
abbrev pub most_job_states : ℕ
most_job_states = 1024

-- voices of a store, and the number of a voice
abbrev pub most_voices : ℕ
most_voices = 256

abbrev pub most_voice : ℕ
most_voice = 65535

-- houses that share a table of window sets, its slots, and how many of these are common and a house's own
abbrev pub house_count : ℕ
house_count = 2

abbrev pub slot_count : ℕ
slot_count = 12

abbrev pub most_common : ℕ
most_common = 4

abbrev pub most_own : ℕ
most_own = 4

-- words of an utterance: as many as 32 bits count
abbrev pub most_words : ℕ
most_words = 4294967295

-- RULES, Sizes: a frame has 1 to 64 components; v is out of that range
abbrev pub outside : ℕ → Bool
outside v = ltb v 1 || ltb most_components v
