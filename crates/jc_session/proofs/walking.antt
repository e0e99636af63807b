pub mod FirstWords
pub mod FolderNames
pub mod NamesSorted
