-- What the contracts of src/ cite, in reading order. What only private contracts and proofs need is in Inner.
pub mod Mask  -- which frames are voiced
pub mod Boundaries  -- how far a voiced frame stands from the ends of its run
pub mod Windows  -- a component's pairs, closed up window by window
pub mod Promise  -- what the calls of the mask promise
pub mod Space  -- what the calls over a work space promise
pub mod Cases  -- worked cases
pub mod Inner
