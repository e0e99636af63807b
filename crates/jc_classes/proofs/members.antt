pub mod Found
pub mod Named
pub mod Numbered
pub mod Ordering
pub mod Ranking
pub mod Searching
pub mod Sorting
