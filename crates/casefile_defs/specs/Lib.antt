-- Document 01's case file and its reading.
pub mod Bounds
pub mod Layout
pub mod Looks
pub mod Moving
pub mod Reading
pub mod Tables
