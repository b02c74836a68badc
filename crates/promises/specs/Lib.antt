-- What the promises speak of, in reading order: what a call tells, and how its answers are played.
pub mod Ends
pub mod Rounds
