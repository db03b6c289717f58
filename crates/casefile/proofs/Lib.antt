-- The laws of the reading's loops and columns and of moving, by subject.
pub mod Words
pub mod Looks
pub mod Rooms
pub mod Stored
pub mod Copies
pub mod Fitted
pub mod Moves
pub mod Steps
pub mod Sheet
