-- The theorems of `games`, in reading order; the laws that they rest on come first.
pub mod Searches
pub mod Verdicts
pub mod Good
pub mod Chain
pub mod Limits
pub mod Cuts
pub mod Few
pub mod Play
pub mod Trials
pub mod Strikes
pub mod Matched
pub mod Walks
pub mod Gone
