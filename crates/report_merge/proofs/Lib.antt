pub mod Order
pub mod Totals
pub mod Apart
pub mod Shared
pub mod Merged
