-- The laws of the layout: how long each part and each entry is, that entries are zero past the end of a part, and that a file holds nothing above its counts.
pub mod Lengths
pub mod Entries
pub mod Past
pub mod Above
