pub mod Sending
mod texts
mod WritesAtOnce
