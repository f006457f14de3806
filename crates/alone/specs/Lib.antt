-- What the claim says, in reading order.
pub mod Premise  -- what it asks of a run's equations
pub mod Claim  -- what it asks of a stream, and what it says
pub mod Cases  -- worked cases: a zero of another sign, and a stream outside the premise
