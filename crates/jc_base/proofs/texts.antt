pub mod FirstUnitIsSpelled
pub mod Names
pub mod PlainNames
pub mod SpelledBytes
pub mod TestsDecide
pub mod UnitsBefore
pub mod WellSpelledFronts
