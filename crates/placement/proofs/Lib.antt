-- Laws of the tests, the choices and the stages; what the search keeps and what its distances are.
pub mod Choice
pub mod Tests
pub mod Turns
pub mod Walk
pub mod Ranges
pub mod Checks
pub mod Chains
pub mod Count
pub mod Best
pub mod Settled
pub mod Settling
pub mod Nearest
pub mod Again
pub mod Sites
pub mod Accepted
