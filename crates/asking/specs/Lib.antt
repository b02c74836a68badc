-- What a question is judged by, in reading order: the checks of t, of a position and of an absence set; the scope's table in words; a position judged
-- on a board.
pub mod Asking
pub mod Table
pub mod OnBoard
