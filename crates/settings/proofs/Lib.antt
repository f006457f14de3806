-- The laws that the functions cite, and those of a store.
pub mod Refusing  -- why a store, a voice or a file is refused
pub mod Places  -- where a voice goes
pub mod Holding  -- how many places hold a voice
pub mod Different  -- as many records are settled as there are different voices
pub mod Changing  -- what each call answers and leaves
pub mod Gathering  -- records that are set one after the other in a clear store
pub mod Writing  -- the file of a store
pub mod Setting  -- what set and remove do to the places
pub mod Laws  -- the laws of a store
pub mod Files  -- the format from both sides
pub mod OneByOne  -- a file as its records set one after the other
pub mod Back  -- what was written, read back
