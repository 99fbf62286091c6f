pub mod Field
pub mod Aes
pub mod Blocks
pub mod Cbc
pub mod Ecb
pub mod Laws
pub mod Examples
