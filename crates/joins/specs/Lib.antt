-- What the program writes.
pub mod Files
