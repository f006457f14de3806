-- Laws that belong to no one function.
pub mod Distances
pub mod Theory
pub mod Ways
pub mod Masks
pub mod Passes
pub mod Selections
pub mod Switches
pub mod Fillings
pub mod Columns
pub mod Runs
pub mod States
pub mod Records
pub mod Groups
pub mod Doors
pub mod Sizes
pub mod One
