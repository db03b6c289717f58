-- Laws of what is put into a buffer.
pub mod Puts
pub mod Lent
