-- What the contracts of src/ cite, in reading order. What only private contracts and proofs need is in Inner.
pub mod Sums  -- sums in the Rust's order
pub mod Solve  -- the factors of a band matrix, and the substitutions
pub mod Promise  -- what the call promises
pub mod Cases  -- a worked case
pub mod Inner
