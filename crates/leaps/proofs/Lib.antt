-- How plan walks are summed, in reading order.
pub mod Bounds
pub mod Taken
