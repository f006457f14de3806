-- The laws that the functions' proofs cite.
mod Held
