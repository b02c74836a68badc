-- What is promised of writing and reading together.
pub mod Trips
-- A worked example.
pub mod Campfire
