-- What the theorems compare the defined plan with.
pub mod Cursor
