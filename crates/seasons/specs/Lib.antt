-- What becomes of a case file that is fed to a season.
pub mod Files
