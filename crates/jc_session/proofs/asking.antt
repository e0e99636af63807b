pub mod CommandLine
pub mod Commands
pub mod FoundAmong
pub mod LineTaken
pub mod RowsFilled
pub mod TakenRows
pub mod UsageErrors
