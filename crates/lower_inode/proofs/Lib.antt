pub mod Refusals
pub mod Turns
pub mod Attaching
pub mod Others
pub mod Steps
pub mod WritingOut
