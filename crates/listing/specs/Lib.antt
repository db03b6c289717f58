pub mod Listing
pub mod Figures
