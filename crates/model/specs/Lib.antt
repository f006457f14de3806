-- What the contracts of src/ cite, in reading order.
pub mod Pair  -- a mean and a variance
pub mod Windows  -- window sets
pub mod Weight  -- a voicing weight
pub mod Record  -- a state's record
pub mod Clamps  -- how many of its pairs are clamped
pub mod Mixing  -- records scaled and added
pub mod Promise  -- what scaling and adding promise
pub mod Cases  -- worked cases
