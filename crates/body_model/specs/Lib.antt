pub mod LowerFile
pub mod Bodies
pub mod BodyCalls
pub mod Format
