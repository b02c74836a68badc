-- The laws of tables and runs of entries.
pub mod Parts
