pub mod Entries
pub mod Passing
