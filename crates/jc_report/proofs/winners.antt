pub mod LeastPathWins
pub mod OneMoreFile
