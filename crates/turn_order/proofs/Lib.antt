pub mod ComingBack
pub mod Counting
pub mod GoingOn
pub mod Walking
