-- What the fields of the exported structs mean.
pub mod Said
