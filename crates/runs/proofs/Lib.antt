-- Laws that belong to no one function.
pub mod Masks
pub mod Covering
pub mod Findings
pub mod Parts
pub mod Ways
pub mod Located
pub mod One
