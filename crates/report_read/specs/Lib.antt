pub mod Readable
pub mod Entries
pub mod Figures
