-- How a sum of trials is reckoned.
pub mod Desk
pub mod Turns
pub mod Reckons
pub mod Loop
pub mod Answers
