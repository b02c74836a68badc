-- The text of the program, in reading order: numbers, words and lines; the text for an input; the record that holds a text.
pub mod Lines
pub mod Telling
pub mod Held
