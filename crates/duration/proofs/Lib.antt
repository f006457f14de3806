-- Laws, and the theorems on what the promises say.
pub mod Shortest
pub mod Refusals
pub mod Estimates
pub mod Fits
pub mod Calls
pub mod Fairness
pub mod Closing
pub mod Groups
pub mod Along
pub mod Aligning
pub mod OnTime
pub mod Drift
pub mod Chapters
pub mod Speeds
pub mod Roundings
pub mod Uncapped
pub mod Ones
