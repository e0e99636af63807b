pub mod Lists
pub mod Loops
pub mod Entries
