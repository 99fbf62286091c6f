pub mod Commands
pub mod Faultless
mod FormLaws
pub mod Leaving
mod ListedNumbers
mod Making
pub mod Mounting
pub mod Moves
pub mod Replaying
pub mod Serving
pub mod Sessions
pub mod ShownLines
pub mod Taken
