pub mod Splits
pub mod Upon
pub mod Decimals
pub mod Pairs
pub mod Hex
pub mod Names
pub mod Texts
pub mod Readings
