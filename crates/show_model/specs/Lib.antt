pub mod ShowText
pub mod Show
