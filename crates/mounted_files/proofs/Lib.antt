mod Places
mod Stepping
mod Opening
mod WritingOut
mod Ending
pub mod Held
pub mod Histories
