-- What the code's steps come to, over plain values.
pub mod Entries
-- Checks one after another.
pub mod Turns
