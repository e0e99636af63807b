pub mod Affected
pub mod Holders
pub mod Linkages
pub mod Steps
pub mod Switches
pub mod inside
