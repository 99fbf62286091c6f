pub mod NameLemmas
pub mod PathLemmas
pub mod RenamingLemmas
pub mod DirListingLemmas
pub mod PathValues
pub mod Searches
pub mod Walks
pub mod StepValues
pub mod Listings
pub mod Rising
pub mod NodeEntries
pub mod Standing
pub mod FileNumbers
mod StepsByOther
mod NoTree
