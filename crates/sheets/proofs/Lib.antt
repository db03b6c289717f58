-- Worked examples, laws of the two layouts, and of the operation.
pub mod Examples
pub mod Layouts
pub mod Operation
