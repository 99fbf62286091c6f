pub mod Ends
pub mod Namespace
pub mod NamesFault
