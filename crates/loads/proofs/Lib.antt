-- What is true of loads, and worked ones.
pub mod One
pub mod Examples
