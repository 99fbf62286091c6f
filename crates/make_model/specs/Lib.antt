pub mod Draws
pub mod MakeJobs
pub mod MakeText
pub mod Made
