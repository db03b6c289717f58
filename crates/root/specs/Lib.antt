-- The square root and the ceiling of a binary64.
pub mod Root
pub mod Ceiling
pub mod Examples
