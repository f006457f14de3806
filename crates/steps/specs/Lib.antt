-- What the contracts of src/ cite, in reading order. What only private contracts and proofs need is in Inner.
pub mod Steps  -- the cost of a duration, and the rule of steps
pub mod Lent  -- states as they are lent
pub mod Promise  -- what the call promises
pub mod Cases  -- worked cases
pub mod Inner
