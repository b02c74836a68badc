-- The theorems of `cases`, in reading order; the laws that they rest on come first.
pub mod Rules
pub mod Positions
pub mod Rounds
pub mod Answers
pub mod Play
pub mod Counted
pub mod Worked
pub mod Fillings
