-- What the static walk's proof uses.
pub mod Leaping
