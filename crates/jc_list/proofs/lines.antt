pub mod Choices
pub mod References
pub mod Joined
pub mod Interfaces
pub mod Indexes
pub mod Signed
pub mod Plain
pub mod Targets
