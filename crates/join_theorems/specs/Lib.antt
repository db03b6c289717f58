-- What the theorems about joined cases say.
pub mod Apart
pub mod Calls
