pub mod Drawing
pub mod LawfulJobs
pub mod MakeNames
mod MakeValues
