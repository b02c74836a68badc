-- What is turned away, in reading order: the order of refusals; where entries stand; what a case is judged by; the scope's table in words.
pub mod Refusals
pub mod Offsets
pub mod CaseChecks
pub mod Table
