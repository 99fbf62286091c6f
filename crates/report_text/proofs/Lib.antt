pub mod EntryFields
pub mod ItemFields
pub mod NodeRuns
pub mod ShardLogs
