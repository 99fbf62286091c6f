pub mod Growing
pub mod Waiting
pub mod Fitting
pub mod Serving
pub mod Moving
pub mod OneLog
