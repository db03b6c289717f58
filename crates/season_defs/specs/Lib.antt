-- A season of plans: fractions in lowest terms, the figures of a list of plans, and the operations.
pub mod Terms
pub mod Plans
pub mod Feeding
