pub mod FieldLemmas
mod PlainPaths
mod Hex
