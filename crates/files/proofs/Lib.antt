-- The laws of files, and the theorems: a file is judged exactly by the scope's table; a refused file gives nothing.
pub mod Headers
pub mod Exactly
pub mod Nothing
pub mod Ways
