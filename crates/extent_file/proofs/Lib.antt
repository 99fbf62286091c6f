pub mod InPlace
pub mod Sealing
pub mod OpenedFiles
