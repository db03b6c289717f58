-- What a mode means, in document 01's number.
pub mod Number
