pub mod Files
pub mod Places
