-- What the header of a file is judged by.
pub mod Checks
