-- Where a row of a line sheet stands, and a sheet laid out anew.
pub mod Request
pub mod Sheet
