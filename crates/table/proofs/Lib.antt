pub mod Finding
pub mod Turning
pub mod Writing
pub mod Raising
pub mod Ending
