pub mod Indexes
pub mod inside
