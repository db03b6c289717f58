-- What placing is for.
pub mod Support
