pub mod Shapes
pub mod Frames
