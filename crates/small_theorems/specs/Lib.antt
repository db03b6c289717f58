-- The place of a network, and the case that tables hold.
pub mod Inverse
pub mod Held
