-- Laws that belong to no one function.
pub mod Lengths
pub mod Switched
pub mod Three
pub mod Grading
pub mod Turns
pub mod Literal
pub mod Varied
pub mod Door
pub mod One
