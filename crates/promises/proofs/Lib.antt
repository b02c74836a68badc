-- The promises, in the order of the customer's demands (docs/PROMISES.md).
pub mod Telling
pub mod Accepting
pub mod Demand1
pub mod Demand2
pub mod Demand3
pub mod OneOutcome
