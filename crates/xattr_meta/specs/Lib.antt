pub mod FileMeta
