pub mod InOrder
pub mod Uses
pub mod Answered
pub mod Methods
pub mod Exact
pub mod NotLoaded
