-- Laws that belong to no one function.
pub mod Ways
pub mod One
pub mod Doors
pub mod Components
pub mod Columns
pub mod Calls
pub mod Clamps
pub mod Keeping
pub mod Marks
pub mod RecordPairs
pub mod ByStates
