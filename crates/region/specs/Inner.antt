-- What only private contracts and proofs need, here and in the crates above.
pub mod Passes
