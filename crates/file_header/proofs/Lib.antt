pub mod KeyBehindFields
pub mod NewMetadata
