pub mod Rules
pub mod Pass
pub mod Form
