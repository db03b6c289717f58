-- Laws of the small networks' tables.
pub mod Shapes
pub mod Filled
pub mod Whole
