-- What the contracts of src/ cite.
pub mod Count
pub mod Holds
pub mod Input
