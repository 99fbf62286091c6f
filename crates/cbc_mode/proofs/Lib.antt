pub mod BlockSteps
pub mod CbcSteps
