pub mod Graph
pub mod Seen
pub mod inside
