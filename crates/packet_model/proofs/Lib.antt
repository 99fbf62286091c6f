pub mod Found
pub mod Lengths
pub mod Packets
pub mod Sets
pub mod PairsInARow
mod Worked
pub mod FileKeys
pub mod Headers
