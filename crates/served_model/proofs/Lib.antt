pub mod FileNodes
mod ReportValues
mod Tallies
mod FileTallies
pub mod Unopened
