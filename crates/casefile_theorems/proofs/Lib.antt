-- The theorems about a case and its files, and the laws that lead to them, by subject.
pub mod Bytes
pub mod Written
pub mod Back
pub mod Places
pub mod CaseBack
pub mod Forth
pub mod CaseForth
pub mod Refused
pub mod Theorems
pub mod Moving
pub mod RoundTrip
pub mod Padding
pub mod Examples
