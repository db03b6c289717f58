pub mod Texts
pub mod Numbers
pub mod Turns
pub mod Rooms
pub mod Outcomes
pub mod Figures
pub mod Forms
