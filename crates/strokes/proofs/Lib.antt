pub mod Playing
pub mod Exactly
pub mod Composing
pub mod Showing
pub mod Runs
pub mod Standing
