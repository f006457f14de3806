-- The proof of the claim.
pub mod Overs
pub mod Cuts
pub mod Blocks
pub mod Solving
pub mod Tested
pub mod Closed
pub mod Reaches
pub mod Claim
pub mod Calls
pub mod Seen
