-- The laws of sums over sets, in reading order.
pub mod Caps
pub mod Joins
pub mod Reached
pub mod Sums
pub mod Splits
pub mod Again
pub mod Seeks
pub mod Jumps
pub mod Summed
pub mod Completed
pub mod Counts
