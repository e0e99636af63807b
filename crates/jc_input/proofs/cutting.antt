pub mod LinesCut
