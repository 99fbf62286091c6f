pub mod Job
pub mod JobText
pub mod BadPlace
