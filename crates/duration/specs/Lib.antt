-- What the contracts of src/ cite, in reading order. What only private contracts and proofs need is in Inner.
pub mod Shortest  -- which shortest durations are refused
pub mod Estimate  -- a state's estimate
pub mod Fit  -- the fit to a length
pub mod Speed  -- the fit at a speed
pub mod Align  -- the fit to given ends
pub mod Drift  -- where the running total stands at given ends
pub mod Promise  -- what the three calls promise
pub mod Fitting  -- the theorem of the fit
pub mod Ones  -- the rules as they were without shortest durations
pub mod Inputs  -- what worked cases are called with
pub mod Cases  -- the rules' table of cases
pub mod CallCases  -- cases beside the table's
pub mod Inner
