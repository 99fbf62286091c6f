pub mod EntriesInARow
pub mod EntryLengths
