-- `Limits` and `Callers` are for callers; the others serve them and the proofs of dispatch's functions.
pub mod Checks
pub mod SharingOut
pub mod Prices
pub mod Limits
pub mod Callers
pub mod Examples
