pub mod Amounts
pub mod Equivalents
