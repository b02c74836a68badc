-- What the calls' proofs use.
pub mod Sayings
pub mod Answering
