-- What the contracts of src/ cite, in reading order. What only private contracts and proofs need is in Inner.
pub mod Trajectory  -- the trajectory of a stream, from its records
pub mod Clamps  -- how many of its pairs are clamped
pub mod Promise  -- what the call promises
pub mod Cases  -- a worked case
pub mod Inner
