-- Files, in reading order: what a file is judged by; what reading it gives; the parts that it hands out; the scope's table for files, in words.
pub mod Checks
pub mod Reading
pub mod Parts
pub mod FileTable
