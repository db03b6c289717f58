-- Theorems about two cases joined, by subject.
pub mod Lists
pub mod Within
pub mod Accepted
pub mod Served
pub mod Apart
pub mod Calls
pub mod Files
