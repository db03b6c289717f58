-- A case in memory, and what reading one gives.
pub mod Cases
