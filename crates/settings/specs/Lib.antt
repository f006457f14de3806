-- What the contracts of src/ cite, in reading order. What only private contracts and proofs need is in Inner.
pub mod Store  -- what the lent lists hold
pub mod Changes  -- the store when it is cleared, a voice set or removed
pub mod Format  -- the settings file, from both sides
pub mod Written  -- which records a file has room for
pub mod Promise  -- what the calls promise
pub mod Laws  -- calls one after the other, and when a store is full
pub mod Cases  -- worked stores and files
pub mod Inner
