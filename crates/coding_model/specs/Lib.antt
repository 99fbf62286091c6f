pub mod NameCoding
pub mod CodedName
pub mod IsCodedName
pub mod CodedForm
