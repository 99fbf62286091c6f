pub mod OwnPair
pub mod Found
