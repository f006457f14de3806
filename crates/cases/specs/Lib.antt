-- Worked cases.
pub mod Table  -- the table of ten
pub mod ReadAlong  -- words and timing files
