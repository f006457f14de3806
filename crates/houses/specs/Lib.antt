-- What the contracts of src/ cite, in reading order.
pub mod Slots  -- what the lent lists hold, and whose each slot is
pub mod Changes  -- a slot when it is set or cleared, and the table when it is started
pub mod Promise  -- what the calls promise
pub mod Calls  -- calls one after the other, and what a house sees of a table
pub mod Apart  -- the claim that houses don't see each other's calls
pub mod Cases  -- worked tables and calls
pub mod Inner
