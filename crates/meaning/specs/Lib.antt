-- What a position must give for the board to speak of it; and a list of persons for the first steps, as a search carries it.
pub mod Sound
pub mod Listed
