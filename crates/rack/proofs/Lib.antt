pub mod Settling
pub mod Outcomes
pub mod Padding
