-- Laws that belong to no one function.
pub mod Orders
pub mod Factors
pub mod Standings
pub mod Threes
pub mod Solved
pub mod One
