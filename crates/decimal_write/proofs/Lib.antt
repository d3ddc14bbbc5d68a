pub mod Counts
pub mod Digits
pub mod Fields
pub mod Words
