-- What is reckoned.
pub mod Reckoned
