pub mod PassphraseKey
pub mod FileKey
pub mod ExtentIv
pub mod SignedKey
