-- What the contracts of src/ cite, what two calls after each other come to, and what two calls promised while 9 was the number of every damage.
pub mod Promise
pub mod Settings
pub mod Words
pub mod Runs
pub mod Houses
pub mod Rendering
pub mod Old
