-- The file of a case, as it is written.
pub mod Put
pub mod Grown
pub mod Words
pub mod Rows
pub mod Files
