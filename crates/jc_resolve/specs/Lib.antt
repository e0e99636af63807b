pub mod Answers
pub mod Linked
pub mod Methods
pub mod Numbered
pub mod inside
