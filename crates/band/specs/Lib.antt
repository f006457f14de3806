-- What the contracts of src/ cite, in reading order. What only private contracts and proofs need is in Inner.
pub mod Paper  -- the paper's normal equations
pub mod Promise  -- what the calls promise
pub mod Cases  -- worked cases
pub mod Inner
