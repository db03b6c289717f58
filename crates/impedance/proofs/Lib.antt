-- The laws of impedance that other crates cite.
pub mod Operation
pub mod Examples
