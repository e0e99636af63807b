pub mod NameLines
pub mod TextListed
