-- The theorem about placing, and one about distances at a small network.
pub mod Rest
pub mod Supported
pub mod Examples
