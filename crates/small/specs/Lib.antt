-- The records of a small network as the code works them out.
pub mod Columns
