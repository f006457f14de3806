-- The laws that the proofs of printing cite.
pub mod Printing
