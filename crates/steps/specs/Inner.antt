-- What only private contracts and proofs need.
pub mod Scores
pub mod Tree
pub mod Pack
pub mod Asked
pub mod Rounds
