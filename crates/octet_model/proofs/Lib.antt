pub mod Octets
pub mod Fronts
