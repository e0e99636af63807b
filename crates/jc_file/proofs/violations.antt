pub mod Decisions
pub mod Lookups
pub mod Constants
pub mod Members
pub mod Classes
pub mod Attributes
pub mod ByteParts
