-- Two cases joined (document 02, K10).
pub mod Columns
pub mod Districts
pub mod Joining
