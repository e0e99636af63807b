pub mod PlainRuns
