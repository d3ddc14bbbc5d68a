pub mod Judging
pub mod Waiting
pub mod Pass
