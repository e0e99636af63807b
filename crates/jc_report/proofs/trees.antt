pub mod NamedClasses
pub mod FactsOfNames
pub mod OneMoreFile
pub mod NamedOutcomes
pub mod FileStates
pub mod RowsOfFiles
