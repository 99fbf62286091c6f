pub mod JobReading
