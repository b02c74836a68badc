-- What the public calls answer, in reading order: an answer's cases, what each call gives for every value of its arguments, and what an answer tells.
pub mod Answers
pub mod Calls
pub mod Told
-- What a contract inside cites besides.
pub mod OnBoard
