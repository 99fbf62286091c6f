pub mod Turn
pub mod Made
pub mod Rooms
pub mod Waits
