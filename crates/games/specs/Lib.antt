-- What a game is and what a walk is, in reading order: who can do what at a position; the games; the walks; good positions and the walk's order;
-- the limit; play.
pub mod Arena
pub mod Games
pub mod Walks
pub mod Good
pub mod Limit
pub mod Play
