-- What only private contracts and proofs need.
pub mod Groups
pub mod Clamps
