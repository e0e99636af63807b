-- The answer to a line `dependants NAME`.
use Rattle.std.specs.Prelude.{◌≡◌, ℕ, List}
use Rattle.jc_classes.specs.NameLists.{Lists}
use Rattle.jc_classes.specs.Names.{Name}
use Rattle.jc_edits.specs.Reported.{IsDependant}
use Rattle.jc_edits.specs.SessionState.{Contents}
use Rattle.jc_session.specs.AnswerText.{names_text}

-- the text has the names of the classes that files give and whose reach contains the name, sorted, or is `none`
abbrev pub SaysDependants : Contents → Name → List ℕ → Type 0
SaysDependants h name text = (names : List Name) × Lists names (IsDependant h name) × (text ≡ names_text names)
