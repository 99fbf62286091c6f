pub mod SameNames
pub mod Leads
pub mod NameParts
