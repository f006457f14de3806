-- The laws of the calls, in reading order.
pub mod Whose  -- whose a slot is
pub mod Accepting  -- what an accepted call has passed
pub mod Putting  -- what a table is when a slot is written
pub mod Holding  -- what a slot holds that is set or cleared
pub mod Unwinding  -- what each call of a house sees and changes
pub mod Apart  -- houses don't see each other's calls
pub mod Started  -- a table that was started
pub mod Again  -- calls one after the other on one slot
pub mod Behind  -- what lies behind the table
pub mod One  -- two outcomes that a promise allows are equal
pub mod Reading  -- how a slot is read
pub mod Filling  -- how it is written
pub mod Commons  -- how a table is started
pub mod Ways  -- the ways out of the calls
