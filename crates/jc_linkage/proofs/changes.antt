pub mod AnyChange
pub mod CountsBounded
pub mod NamesChanged
pub mod PartsCounted
pub mod PrefixesSwitched
pub mod SameClasses
