pub mod Pages
pub mod Found
pub mod Heads
