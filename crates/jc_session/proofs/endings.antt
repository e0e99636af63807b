pub mod FailuresCounted
pub mod WordsRefused
