-- What the contracts of src/ cite, in reading order. What only private contracts and proofs need is in Inner.
pub mod Runs  -- the runs of a mask
pub mod Alone  -- the trajectory of one run
pub mod Promise  -- what the calls promise
pub mod Cases  -- worked cases
pub mod Inner
