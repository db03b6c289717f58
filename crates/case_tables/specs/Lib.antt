-- The tables as their definition has them.
pub mod Tables
