pub mod Tilde
