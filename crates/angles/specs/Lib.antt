-- What the contracts of the private functions cite.
pub mod Bounds
pub mod Edges
pub mod Slices
pub mod Rows
