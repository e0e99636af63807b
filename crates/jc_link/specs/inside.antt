pub mod ClosureShown
pub mod TheClass
pub mod Gathering
pub mod HeldPrefixes
pub mod GraphAsked
pub mod GraphShown
pub mod PartShown
