pub mod Bits
pub mod Parts
pub mod Entries
pub mod Pass
pub mod Answered
