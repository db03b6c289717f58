-- What the contracts of reading and of a number's text cite.
pub mod Counts
pub mod Digits
