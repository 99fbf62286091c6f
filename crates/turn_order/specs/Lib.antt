pub mod GoesOn
pub mod Items
pub mod Order
pub mod Replay
