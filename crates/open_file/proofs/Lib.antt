pub mod Extents
pub mod Resizing
pub mod Standing
pub mod Laid
pub mod Decoding
pub mod Found
pub mod Worked
