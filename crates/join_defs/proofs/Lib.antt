-- Laws of the joined tables and of cases that may be joined, and worked examples.
pub mod Examples
pub mod Faults
pub mod Levels
pub mod Tables
