-- The laws that the proofs below and the crates above cite.
pub mod Pairs
pub mod Windows
pub mod Accepted
pub mod Records
pub mod Clamps
pub mod Scaling
pub mod Adding
pub mod Promises
