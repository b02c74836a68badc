-- What writing a case into a lent buffer comes to.
pub mod Writing
