-- The file of a case, the cases that a file can hold, and the reading with its trailing bytes tested one by one.
pub mod Writer
pub mod Cases
pub mod Plain
