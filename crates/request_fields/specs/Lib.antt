pub mod Written
pub mod Reading
