pub mod Searching
pub mod Rising
pub mod Edited
pub mod Ordered
