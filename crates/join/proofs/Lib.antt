-- Laws that no one function owns.
pub mod Modes
pub mod Places
pub mod Refusals
pub mod Sheets
pub mod Whole
