pub mod RunsOverLines
pub mod LineAnswered
pub mod RunsSoFar
pub mod ByAnswers
pub mod OneRun
pub mod EditsMade
