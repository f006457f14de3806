-- What holds of places and excerpts, for the crates above, and the laws that the proofs of src/ cite.
pub mod Places
pub mod Excerpts
pub mod Spans
pub mod One
mod Sums
mod Ways
