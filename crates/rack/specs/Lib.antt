pub mod Meaning
pub mod Cut
pub mod Answers
pub mod Sizes
pub mod Shapes
