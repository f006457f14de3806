-- What only private contracts and proofs need.
pub mod Standing
pub mod Three
