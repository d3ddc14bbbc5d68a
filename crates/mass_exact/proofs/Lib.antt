pub mod Scales
pub mod Amounts
pub mod Equivalents
