-- A case laid out as a board, and what a case must give for it; then how the parts are put onto a board, one after the other.
pub mod Laid
pub mod Ready
pub mod Putting
