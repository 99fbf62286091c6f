pub mod Places
pub mod IsTreeLemmas
pub mod Changes
pub mod Inversion
