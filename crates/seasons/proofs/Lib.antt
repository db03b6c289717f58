-- The laws of feeding a file.
pub mod Planned
