-- What only private contracts and proofs need.
pub mod Fits
pub mod Passes
pub mod Sets
