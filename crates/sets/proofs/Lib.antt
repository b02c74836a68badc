-- The laws of `sets`, for every width. Other crates cite them.
pub mod Lists
pub mod Ascending
pub mod Bits
pub mod Counting
pub mod Records
pub mod Members
pub mod NotBelow
pub mod Listed
pub mod Masks
pub mod CountingUp
pub mod Following
pub mod Blocks
