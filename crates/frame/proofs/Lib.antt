pub mod Every
pub mod Legal
pub mod Fitting
