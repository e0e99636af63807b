pub mod Changes
pub mod Prefixed
