pub mod Counts
pub mod FreshLists
pub mod NamesAsked
pub mod NewcomersReady
