pub mod Parts
pub mod PairLists
pub mod PairCodec
pub mod ChangeLaws
pub mod ReadLaws
pub mod ReadAs
pub mod Overlays
