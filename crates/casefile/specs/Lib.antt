-- A table's records, and what moving asks of a file.
pub mod Records
pub mod Movable
pub mod Read
pub mod Filled
