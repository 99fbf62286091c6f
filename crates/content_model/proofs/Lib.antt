pub mod IvBlocks
pub mod OneContent
pub mod Extents
mod Worked
pub mod WrappedKeys
pub mod FormatContent
