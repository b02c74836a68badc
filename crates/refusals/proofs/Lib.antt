-- The laws of refusals.
pub mod Order
pub mod Search
pub mod Table
pub mod Conditions
pub mod Cases
