-- What a sum over absence sets is, and the arrays that hold such sums.
pub mod Sums
pub mod Arrays
