-- What the proofs about positions use.
pub mod Entries
