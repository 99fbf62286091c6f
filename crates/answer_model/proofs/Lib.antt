pub mod Binds
pub mod MoreMemory
pub mod Values
