pub mod Pairs
pub mod Held
pub mod Changes
pub mod Edits
pub mod Readings
