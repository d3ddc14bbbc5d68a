pub mod Keyed
pub mod Summing
pub mod Entries
pub mod Answered
