-- Worked examples.
pub mod Examples
