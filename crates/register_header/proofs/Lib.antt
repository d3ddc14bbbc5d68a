pub mod Headed
pub mod Offsets
