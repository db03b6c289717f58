-- A header and its tables as a case of planning.
pub mod Cases
