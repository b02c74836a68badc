-- What every search's proof uses.
pub mod Scans
pub mod Hunts
pub mod Lines
pub mod Sweeps
pub mod Tries
pub mod Turns
pub mod Showing
pub mod Agreeing
pub mod Alike
pub mod Away
pub mod Good
pub mod Choosing
