-- Laws, and the theorems on what the promise says.
pub mod Damages
pub mod Places
pub mod Pairs
pub mod Frames
pub mod Answers
pub mod Outcomes
pub mod Telling
pub mod Old
pub mod Written
pub mod Rewritten
pub mod Memory
pub mod LinkWays
pub mod LinkOutcomes
pub mod Linking
