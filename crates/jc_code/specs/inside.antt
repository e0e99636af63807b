pub mod Entries
pub mod Decoding
pub mod Marks
pub mod TextSizes
pub mod Found
pub mod FirstPass
pub mod Fronts
