-- The laws of the C calls.
pub mod One
pub mod Rendering
pub mod Alone
pub mod Houses
pub mod Timing
pub mod Drift
pub mod Telling
pub mod Old
pub mod Keeping
