pub mod Buffered
pub mod Calling
pub mod Standing
pub mod Resizing
pub mod Opening
