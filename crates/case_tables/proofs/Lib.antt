-- The sizes of the tables, and their names.
pub mod Sized
pub mod Named
