-- Angles (document 01, modules, 5): the network's vectors, the solve, and the operation with its refusals.
pub mod Network
pub mod Solve
pub mod Operation
