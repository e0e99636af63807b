pub mod Lists
pub mod SameClasses
