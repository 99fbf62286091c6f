pub mod InTurn
pub mod Filled
pub mod Stage
pub mod Openings
