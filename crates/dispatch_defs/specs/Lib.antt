-- The definitions that the promise of `dispatch` cites, and what its laws say.
pub mod Units
pub mod Share
pub mod Dispatch
pub mod Operation
pub mod Limits
