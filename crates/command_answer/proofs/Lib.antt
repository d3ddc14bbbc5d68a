pub mod Lines
pub mod Saying
pub mod Amounts
