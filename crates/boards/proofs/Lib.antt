-- The laws behind the functions of `boards`.
pub mod Over
pub mod Looked
pub mod Halves
pub mod Pairs
