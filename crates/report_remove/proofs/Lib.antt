pub mod Between
pub mod Parted
pub mod Others
pub mod Removed
pub mod Answered
