pub mod ReportText
pub mod Served
