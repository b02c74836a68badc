-- The laws of writing: how it is judged, and how the parts make the file.
pub mod Judged
pub mod Laws
