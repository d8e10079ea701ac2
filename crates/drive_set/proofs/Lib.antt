pub mod Tallies
pub mod Masks
pub mod Counting
