-- The case file.
pub mod Layout
