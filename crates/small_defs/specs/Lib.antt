-- The small networks in their order, and the tables of each.
pub mod Networks
pub mod Tables
