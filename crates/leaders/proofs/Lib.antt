-- The laws of leaders that other crates cite.
pub mod Checks
pub mod Callers
pub mod Laws
pub mod Forests
pub mod Examples
