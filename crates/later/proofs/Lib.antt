pub mod Keeping
pub mod Places
pub mod Derived
