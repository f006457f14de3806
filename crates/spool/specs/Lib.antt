-- What the contracts of src/ cite, in reading order. What only private contracts and proofs need is in Inner.
pub mod Place  -- a number's byte in the spool
pub mod Excerpt  -- a state's part of a trajectory
pub mod Refusal  -- why a call is refused, with laws and cases below it
pub mod Promise  -- what the calls promise
pub mod Cases  -- worked cases
pub mod Inner
