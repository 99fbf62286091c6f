pub mod Carried
pub mod LowerFor
