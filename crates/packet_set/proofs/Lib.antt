pub mod PairsInTurn
pub mod Keys
pub mod OneKey
