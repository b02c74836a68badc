-- What crosses to other languages, in reading order: an answer as numbers, and a position as bytes.
pub mod Replies
pub mod Pairs
