pub mod Blocks
pub mod Places
pub mod Changes
pub mod Calls
