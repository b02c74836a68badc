-- What a board says of a step, of a rule and of a person; the positions that a search comes to; and the walks.
pub mod Means
pub mod Placing
pub mod Listed
pub mod OnBoard
