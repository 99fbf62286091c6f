pub mod Content
pub mod Extents
pub mod Ecryptfs
