-- The theorems, and the laws that they stand on.
pub mod Euclid
pub mod Order
pub mod Checks
pub mod Taking
pub mod Theorems
pub mod Examples
