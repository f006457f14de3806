-- What the contracts of src/ cite.
pub mod Words  -- whether a word is a text
