-- The theorems, and the laws that they stand on.
pub mod Bits
pub mod Places
pub mod Accepted
pub mod Tables
pub mod Theorems
pub mod OneLevel
