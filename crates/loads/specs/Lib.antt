-- The definitions that the promises of `loads` cite.
pub mod Load
