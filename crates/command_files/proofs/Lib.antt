pub mod Coming
pub mod Longer
pub mod Delivering
pub mod TooLong
