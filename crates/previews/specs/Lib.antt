-- What becomes of a case file that is previewed.
pub mod Files
