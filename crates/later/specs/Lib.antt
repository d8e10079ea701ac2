pub mod Order
pub mod Keeping
pub mod Stamps
pub mod Marks
pub mod Fields
pub mod Apart
