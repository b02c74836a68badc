-- What a right header comes to.
pub mod Right
