pub mod FilledLists
pub mod SizesAt
