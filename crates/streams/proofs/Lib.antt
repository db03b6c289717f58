-- A number's text.
pub mod Text
