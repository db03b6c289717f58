-- The definitions that the promises of `impedance` cite.
pub mod Impedance
