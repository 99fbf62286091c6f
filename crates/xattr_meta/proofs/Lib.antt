pub mod Head
pub mod Bounds
pub mod FileMetas
