pub mod Meta
pub mod NewMetadata
