-- What follows on a reading.
pub mod Followed
