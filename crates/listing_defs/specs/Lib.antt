-- The text of the listing: of a field, of a line, and of a plan.
pub mod Text
pub mod Lines
pub mod Listing
