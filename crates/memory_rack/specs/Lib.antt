pub mod Kept
pub mod Memory
