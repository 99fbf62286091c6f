pub mod NameOctets
