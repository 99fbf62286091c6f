pub mod Fields
pub mod Entries
pub mod Image
pub mod FaultOffsets
mod WorkedImages
