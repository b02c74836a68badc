-- Little-endian numbers of bytes, and runs of entries.
pub mod Word
pub mod Part
