pub mod ByteFile
pub mod FileLog
pub mod LaidOut
pub mod Shard
pub mod Paging
pub mod Resizing
pub mod FilesGoOn
