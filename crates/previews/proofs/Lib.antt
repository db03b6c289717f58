-- The laws of a draft and its previews.
pub mod Planned
