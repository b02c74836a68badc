-- What stands at the places of a board, from what the functions here are lent.
pub mod Pieces
