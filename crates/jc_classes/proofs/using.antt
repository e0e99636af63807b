pub mod Adding
pub mod DescriptorClasses
pub mod FirstUsers
pub mod Marking
pub mod Tables
pub mod UsersOf
pub mod UsersUsed
