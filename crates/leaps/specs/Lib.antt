-- What is said of a leap.
pub mod Leaps
