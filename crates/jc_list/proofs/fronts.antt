pub mod OneBehindAnother
pub mod WrittenAtLast
