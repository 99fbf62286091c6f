mod Worked
mod WorkedNames
pub mod Groups
pub mod Decoding
pub mod EcbTexts
pub mod NamePackets
pub mod CodedNames
pub mod ReadNames
pub mod Signatures
