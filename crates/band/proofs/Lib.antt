-- Laws that belong to no one function.
pub mod Terms
pub mod Windows
pub mod Lengths
pub mod Runs
pub mod Moves
pub mod Columns
pub mod Taps
pub mod Blocks
pub mod Ways
pub mod Door
pub mod Enough
pub mod One
