pub mod lookups
pub mod answering
pub mod linking
pub mod loading
