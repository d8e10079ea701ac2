pub mod Bytes
pub mod Heads
pub mod Commits
pub mod Pages
pub mod Readings
