pub mod ProgramError
pub mod ReportOutput
pub mod Input
pub mod ErrorLine
pub mod Tracking
pub mod Written
