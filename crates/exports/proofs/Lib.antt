-- Laws of the exported structs.
pub mod Told
