pub mod Tested
pub mod Accepted
