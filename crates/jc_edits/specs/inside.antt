pub mod Changing
pub mod Claims
pub mod Growth
pub mod HeldFile
pub mod Metered
pub mod Reporting
pub mod StateCode
