pub mod CipherSteps
pub mod Shards
pub mod NodeTurn
pub mod WritingOut
