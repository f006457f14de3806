-- What the contracts of src/ cite, in reading order. What only private contracts and proofs need is in Inner.
pub mod Gv  -- the formulas by their names in `mlpg.rs`
pub mod Parmgen  -- rescaling and five steps
pub mod Promise  -- what the call promises
pub mod Cases  -- worked cases
pub mod Inner
