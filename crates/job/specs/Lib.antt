-- What the contracts of src/ cite, in reading order. What only private contracts and proofs need is in Inner.
pub mod Format  -- the job file
pub mod Damage  -- what is wrong with one, and where
pub mod Places  -- what the place says of the file
pub mod Promise  -- what the call promises
pub mod Link  -- the serial link: what its memory says
pub mod LinkPromise  -- what begin, part and end promise
pub mod Linking  -- calls one after the other
pub mod Old  -- the promise while 9 was every damage's number
pub mod Written  -- the format from the other side
pub mod Cases  -- the worked job, and departures
pub mod LinkCases  -- the worked job in parts
pub mod Inner
