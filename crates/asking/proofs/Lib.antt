-- The laws of what a question is judged by: exactly by the scope's table; what an accepted question gives; the order of a call's judgements; and what
-- the code here comes to.
pub mod Exact
pub mod Accepted
pub mod Calls
pub mod Steps
pub mod OnCase
pub mod Laid
