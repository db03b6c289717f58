-- What reading, joining and writing leave, for the file that the program writes.
pub mod Joined
