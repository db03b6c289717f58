-- The definitions that every crate shares.
pub mod Bounds
pub mod Figures
pub mod Loops
pub mod Parts
pub mod Sorting
pub mod Verdict
