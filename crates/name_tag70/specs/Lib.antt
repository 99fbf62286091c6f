pub mod PlainNames
pub mod NameKey
pub mod Reading
