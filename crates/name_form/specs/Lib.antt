pub mod FormOf
