pub mod CauseText
pub mod NodeText
