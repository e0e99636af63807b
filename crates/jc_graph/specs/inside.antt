pub mod Climb
pub mod Marks
pub mod Walk
