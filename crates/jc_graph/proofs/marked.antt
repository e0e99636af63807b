pub mod SeenLemmas
pub mod Climbs
