-- The laws of reading and planning a file.
pub mod Planned
pub mod Files
