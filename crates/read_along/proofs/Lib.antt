-- What holds of words' times, for the crates above, and the laws that the proofs of src/ cite.
pub mod Frames
pub mod Covering
pub mod Excerpts
pub mod Files
pub mod Back
pub mod One
pub mod Refusing
mod Ends
mod Lengths
mod Steps
mod Passes
mod Filing
mod Ways
