-- What the contracts of src/ cite, and what the crates above say their work space by, in reading order. What only private contracts and proofs need is in Inner.
pub mod Rows  -- numbers and band matrices in flat lists
pub mod Region  -- a component's region of the work space, and the regions of several
pub mod Inner
