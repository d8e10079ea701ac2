pub mod Views
pub mod Found
pub mod Finish
