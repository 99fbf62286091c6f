pub mod SubByteTables
pub mod RoundTables
pub mod WordBytes
pub mod BlockWords
pub mod Columns
pub mod Rounds
pub mod InverseRounds
pub mod KeySchedule
