-- Laws of the record that holds a text, and of the words and lines put into it.
pub mod Growing
pub mod Lists
pub mod Sayings
-- Theorems about the text: numbers, good input, longer and shorter input.
pub mod Decimal
pub mod Answered
pub mod Longer
-- A case is judged once and laid out once.
pub mod Laid
-- Every text fits, and is held.
pub mod Fits
pub mod Writing
