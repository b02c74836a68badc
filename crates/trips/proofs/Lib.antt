-- The theorems of `trips`, in reading order; the laws that they rest on come first.
pub mod Numbers
pub mod Entries
pub mod Back
pub mod Again
pub mod Good
pub mod Refused
pub mod Trips
pub mod Campfire
