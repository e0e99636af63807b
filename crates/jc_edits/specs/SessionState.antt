-- What contracts see of a session.
use Rattle.std.specs.Prelude.{ℕ, List}
use Rattle.jc_classes.specs.Names.{Name}
use Rattle.jc_link.specs.Meters.{Counts}
use Rattle.jc_report.specs.Files.{Files}

-- the contents of a session: its files and its outside prefixes
pub record Contents : Type 0 where
  pub files : Files
  pub prefixes : List Name

-- the contents of a session, with the counts of its meter
pub record SessionState : Type 0 where
  pub files : Files
  pub prefixes : List Name
  pub asks : ℕ
  pub made : ℕ

-- the contents without the counts
abbrev pub contents_of : SessionState → Contents
contents_of s = record { files = s.files; prefixes = s.prefixes }

abbrev pub counts_in : SessionState → Counts
counts_in s = record { asks = s.asks; made = s.made }
