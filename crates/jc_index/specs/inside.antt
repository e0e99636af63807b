pub mod IsIndex
pub mod Places
