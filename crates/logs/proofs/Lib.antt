pub mod Scanning
pub mod Records
pub mod Runs
