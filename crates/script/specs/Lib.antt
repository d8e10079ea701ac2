pub mod Words
pub mod Values
pub mod Commands
pub mod Texts
pub mod Reader
