pub mod Entries
pub mod Searching
