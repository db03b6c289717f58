-- What placement answers: the request and its refusals, the distances and what they are for, the condensers.
pub mod Request
pub mod Distance
pub mod Chain
pub mod Support
