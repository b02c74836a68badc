-- What a case means, in reading order.
pub mod Case
pub mod Rules
pub mod Plans
pub mod Questions
pub mod Chain
pub mod Shown
pub mod Play
-- What contracts of functions here cite besides: positions in memory, and what a search carries.
pub mod Positions
pub mod Filled
