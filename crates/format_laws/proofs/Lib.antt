pub mod EightOctets
pub mod FormatLaws
