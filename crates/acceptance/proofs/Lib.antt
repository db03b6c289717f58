-- Laws that no one function owns, and what callers may use.
pub mod Checks
pub mod Callers
