pub mod Judging
pub mod Tables
