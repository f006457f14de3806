-- What the contracts of src/ cite, in reading order. What only private contracts and proofs need is in Inner.
pub mod Words  -- the frames that a word has
pub mod Format  -- the timing file
pub mod Promise  -- why a call is refused, and what the calls promise
pub mod Laws  -- what is said of words together, and of a timing file
pub mod Inner
