-- What the exported calls answer: the answer of each call for a file.
pub mod Calls
