-- The definitions that the promises of `leaders` cite, and what its laws say.
pub mod Leaders
pub mod Operation
pub mod Chain
pub mod Forest
