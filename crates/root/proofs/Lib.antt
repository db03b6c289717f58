-- Laws that no one function owns.
pub mod Isqrt
pub mod Round
pub mod Patterns
pub mod Bits
pub mod Order
pub mod Units
pub mod Middle
pub mod Correct
pub mod Monotone
pub mod Ceiling
pub mod Squares
pub mod Halving
mod Digits
