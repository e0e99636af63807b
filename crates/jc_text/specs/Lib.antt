pub mod Escapes
pub mod Numbers
pub mod Sends
