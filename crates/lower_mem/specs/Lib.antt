pub mod Plan
pub mod Names
pub mod Files
pub mod Bodies
pub mod Making
pub mod Laid
