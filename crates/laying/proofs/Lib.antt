-- The laws of laying out: the parts, put one after the other, are the board of the case.
pub mod Places
pub mod Building
pub mod OffRows
pub mod TableWords
pub mod Laying
