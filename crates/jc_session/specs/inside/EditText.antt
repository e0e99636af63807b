-- The text of the answer to an edit.
use Rattle.std.specs.Prelude.{List, ℕ, Result, Ok, Err, codes}
use Rattle.jc_input.specs.declared.edit.Done.{Done}
use Rattle.jc_input.specs.declared.edit.EditError.{EditError}
use Rattle.jc_session.specs.AnswerText.{refused_text}

-- `ok`, or why the edit is refused
abbrev pub edit_text : Result Done EditError → List ℕ
edit_text (Ok done) = codes "ok\n"
edit_text (Err e) = refused_text e
