-- Laws, and that the call has one outcome.
pub mod Order
pub mod Least
pub mod Keys
pub mod Scans
pub mod Nodes
pub mod Packs
pub mod Stepping
pub mod Playing
pub mod Settling
pub mod Alone
pub mod Door
pub mod One
