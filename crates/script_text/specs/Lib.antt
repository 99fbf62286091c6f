pub mod OpAnswer
