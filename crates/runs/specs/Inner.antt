-- What only private contracts and proofs need.
pub mod Finding
pub mod Lent
