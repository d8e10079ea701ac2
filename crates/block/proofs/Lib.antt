pub mod FromFn
pub mod Numbers
pub mod Zeros
pub mod Reading
pub mod HeadLaws
pub mod CommitLaws
pub mod PageLaws
pub mod ReadAs
