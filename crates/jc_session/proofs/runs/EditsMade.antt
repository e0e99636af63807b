-- What an edit of a session comes to, over files and prefixes, and what is said of it.
use Rattle.std.proofs.Common.{◌≡◌, ◌≢◌, ◌∙◌, List, None, Some, Result, Ok, Err, OnOk, OnErr, MatchResult, refl, sym, ap}
use Rattle.std.specs.Prelude.{codes}
use Rattle.jc_classes.specs.Names.{Name}
use Rattle.jc_report.specs.Files.{Files}
use Rattle.jc_input.specs.declared.edit.Done.{Done}
use Rattle.jc_input.specs.declared.edit.EditError.{EditError}
use Rattle.jc_input.specs.declared.edit.EditError.TheVariants as errors
use Rattle.jc_input.specs.Changes.{Change, PrefixChange, EditChange, OfFiles, OfPrefixes}
use Rattle.jc_input.specs.Sources.{SourceAnswers}
use Rattle.jc_input.specs.FileEdits.{after, judge}
use Rattle.jc_edits.specs.Edits.{after_prefix, judge_edit, judge_prefix}
use Rattle.jc_edits.specs.Judged.{IsJudged}
use Rattle.jc_edits.specs.SessionState.{Contents, SessionState, contents_of}
use Rattle.jc_session.specs.AnswerText.{refused_text}
use Rattle.jc_session.specs.Answers.{Says, edit_reply, judged_reply}
use Rattle.jc_session.specs.inside.EditText.{edit_text}
use Rattle.jc_session.specs.inside.Replies.{IsEdited}

pub same_held : (files new_files : Files) (prefixes new_prefixes : List Name) → new_files ≡ files → new_prefixes ≡ prefixes
    → (let g : Contents = record { files = new_files; prefixes = new_prefixes } in g) ≡ record { files = files; prefixes = prefixes }
same_held files new_files prefixes new_prefixes e d = cc

pub files_edited : (old new : SessionState) (change : Change) (edited : Result Done EditError)
    → MatchResult edited (λ _. judge old.files change ≡ None) (λ e. IsJudged e (judge old.files change))
    → OnOk edited (new.files ≡ after old.files change) → OnErr edited (new.files ≡ old.files) → new.prefixes ≡ old.prefixes
    → IsEdited (contents_of old) (contents_of new) (OfFiles change) edited
files_edited old new change (Ok done) judged ok err same = (judged, same_held (after old.files change) new.files old.prefixes new.prefixes ok same)
files_edited old new change (Err e) judged ok err same = (judged, same_held old.files new.files old.prefixes new.prefixes err same)

pub prefixes_edited : (old new : SessionState) (change : PrefixChange) (edited : Result Done EditError)
    → MatchResult edited (λ _. judge_prefix old.prefixes change ≡ None) (λ e. IsJudged e (judge_prefix old.prefixes change))
    → OnOk edited (new.prefixes ≡ after_prefix old.prefixes change) → OnErr edited (new.prefixes ≡ old.prefixes) → new.files ≡ old.files
    → IsEdited (contents_of old) (contents_of new) (OfPrefixes change) edited
prefixes_edited old new change (Ok done) judged ok err same = (judged, same_held old.files new.files (after_prefix old.prefixes change) new.prefixes same ok)
prefixes_edited old new change (Err e) judged ok err same = (judged, same_held old.files new.files old.prefixes new.prefixes same err)

refused : (h g : Contents) (change : EditChange) (t : SourceAnswers) (e : EditError) → judge_edit h change ≡ Some e → g ≡ h → edit_reply h t change ≡ Says (refused_text e) g t
refused h g change t e judged is = ap (judged_reply h t change) judged ∙ ap (λ (k : Contents). Says (refused_text e) k t) (sym is)

-- an edit that did not want memory is answered by its text
pub reply_said : (edited : Result Done EditError) (h g : Contents) (change : EditChange) (t : SourceAnswers) → edited ≢ Err errors.NoMemory → IsEdited h g change edited
    → edit_reply h t change ≡ Says (edit_text edited) g t
reply_said (Ok done) h g change t other (judged, is) = ap (judged_reply h t change) judged ∙ ap (λ (k : Contents). Says (codes "ok\n") k t) (sym is)
reply_said (Err errors.AlreadyThere) h g change t other (judged, is) = refused h g change t errors.AlreadyThere judged is
reply_said (Err errors.NoSuchFile) h g change t other (judged, is) = refused h g change t errors.NoSuchFile judged is
reply_said (Err errors.TooLarge) h g change t other (judged, is) = refused h g change t errors.TooLarge judged is
reply_said (Err errors.TooMany) h g change t other (judged, is) = refused h g change t errors.TooMany judged is
reply_said (Err errors.BadPath) h g change t other (judged, is) = refused h g change t errors.BadPath judged is
reply_said (Err errors.NoMemory) h g change t other edited = absurd (other refl)
reply_said (Err errors.BadPrefix) h g change t other (judged, is) = refused h g change t errors.BadPrefix judged is
reply_said (Err errors.PrefixThere) h g change t other (judged, is) = refused h g change t errors.PrefixThere judged is
reply_said (Err errors.NoSuchPrefix) h g change t other (judged, is) = refused h g change t errors.NoSuchPrefix judged is
reply_said (Err errors.TooManyPrefixes) h g change t other (judged, is) = refused h g change t errors.TooManyPrefixes judged is
