-- What the calls' proofs use.
pub mod Fronts
pub mod Replying
pub mod Texts
