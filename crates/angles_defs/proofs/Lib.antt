-- Laws of the solve and of the operation, and worked examples.
pub mod Vectors
pub mod Solves
pub mod Answers
pub mod Examples
