-- The laws of the pieces: each entry, and the loops that make it.
pub mod Tests
pub mod Writing
pub mod Collecting
pub mod Rows
pub mod Columns
pub mod Preceding
pub mod Waiting
pub mod Halving
