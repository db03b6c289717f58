-- What the search keeps: the corridors at each bus and the nearest candidate of each block; and what the stages leave.
pub mod Choices
pub mod Corridors
pub mod Blocks
pub mod Marks
pub mod Stages
pub mod Views
