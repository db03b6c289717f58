-- The laws of the definitions, by subject, and worked examples.
pub mod Words
pub mod Trailing
pub mod Records
pub mod Counts
pub mod Walks
pub mod Spots
pub mod Accepted
pub mod Whole
pub mod Callers
pub mod Examples
