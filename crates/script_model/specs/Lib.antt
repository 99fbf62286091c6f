pub mod Script
pub mod ScriptText
