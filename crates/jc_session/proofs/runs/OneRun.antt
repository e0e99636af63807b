-- Lines come to one thing.
use Rattle.std.proofs.Common.{◌≡◌, ◌∙◌, ℕ, List, [], ◌∷◌, Option, Some, None, refl, sym, ap, subst}
use Rattle.jc_classes.specs.Facts.{Facts}
use Rattle.jc_classes.specs.Names.{Name}
use Rattle.jc_classes.proofs.numbering.Rising.{contains_of, has_of}
use Rattle.jc_classes.proofs.worlds.Parts.{part_one}
use Rattle.jc_edits.specs.SessionState.{Contents}
use Rattle.jc_report.specs.PartText.{part_text}
use Rattle.jc_report.specs.ReportText.{report_text}
use Rattle.jc_report.specs.Reports.{facts_at, world_of}
use Rattle.jc_report.proofs.reports.OneReport.{report_one}
use Rattle.jc_report.proofs.rows.RowsAreOne.{sorted_names_one}
use Rattle.jc_input.specs.Lines.{Command, Add, Replace, Remove, AddPrefix, DropPrefix, Report, Part, Listing, Dependants, End, Bad, command_of}
use Rattle.jc_input.specs.Sources.{SourceAnswers}
use Rattle.jc_edits.specs.SaidPart.{SaysPartBy}
use Rattle.jc_session.specs.AnswerText.{names_text}
use Rattle.jc_session.specs.SaidDependants.{SaysDependants}
use Rattle.jc_session.specs.Answers.{Reply, Says, Lists, Ends, Lacks, SaysReport, Replies, Run, RunsTo, AtEnd, WithoutMemory, after_text}
use Rattle.jc_session.specs.Answers.RunsTo.{at_eof, says, lists, ends, lacks}

-- ---- one reply

report_texts : (h : Contents) (one other : List ℕ) → SaysReport h one → SaysReport h other → one ≡ other
report_texts h one other (q, is_q, says_q) (r, is_r, says_r) = says_q ∙ ap report_text (report_one h.files h.prefixes q r is_q is_r) ∙ sym says_r

part_texts : (h : Contents) (name : Name) (facts : Option Facts) (one other : List ℕ)
    → SaysPartBy h.files h.prefixes name facts one → SaysPartBy h.files h.prefixes name facts other → one ≡ other
part_texts h name None one other says_one says_other = says_one ∙ sym says_other
part_texts h name (Some facts) one other (p, is_p, says_p) (q, is_q, says_q) =
    says_p ∙ ap (part_text facts) (part_one (world_of h.files h.prefixes) name p q is_p is_q) ∙ sym says_q

dependants_texts : (h : Contents) (name : Name) (one other : List ℕ) → SaysDependants h name one → SaysDependants h name other → one ≡ other
dependants_texts h name one other (ns, are_n, says_n) (ms, are_m, says_m) =
    says_n
    ∙ ap names_text
    (sorted_names_one ns ms are_n.rises are_m.rises
    (λ n c. contains_of ms n (are_m.complete n (are_n.sound n (has_of ns n c))))
    (λ n c. contains_of ns n (are_n.complete n (are_m.sound n (has_of ms n c)))))
    ∙ sym says_m

pub one_reply : (h : Contents) (s : SourceAnswers) (command : Command) (q r : Reply) → Replies h s command q → Replies h s command r → q ≡ r
one_reply h s (Add path) q r a b = a ∙ sym b
one_reply h s (Replace path) q r a b = a ∙ sym b
one_reply h s (Remove path) q r a b = a ∙ sym b
one_reply h s (AddPrefix prefix) q r a b = a ∙ sym b
one_reply h s (DropPrefix prefix) q r a b = a ∙ sym b
one_reply h s Report q r a b = a.2 ∙ ap (λ text. Says text h s) (report_texts h a.0 b.0 a.1 b.1) ∙ sym b.2
one_reply h s (Part name) q r a b = a.2 ∙ ap (λ text. Says text h s) (part_texts h name (facts_at h.files name) a.0 b.0 a.1 b.1) ∙ sym b.2
one_reply h s (Listing name) q r a b = a ∙ sym b
one_reply h s (Dependants name) q r a b = a.2 ∙ ap (λ text. Says text h s) (dependants_texts h name a.0 b.0 a.1 b.1) ∙ sym b.2
one_reply h s End q r a b = a ∙ sym b
one_reply h s Bad q r a b = a ∙ sym b

-- ---- one run

-- a run from a reply on
abbrev GoesOn : Contents → SourceAnswers → List (List ℕ) → Reply → Run → Type 0
GoesOn h s lines (Says text g t) run = (rest : Run) × RunsTo g t lines rest × (run ≡ after_text text rest)
GoesOn h s lines (Lists text) run = (rest : Run) × RunsTo h s lines rest × (run ≡ after_text text rest)
GoesOn h s lines Ends run = run ≡ record { text = []; held = h; source = s; ending = AtEnd }
GoesOn h s lines (Lacks t) run = run ≡ record { text = []; held = h; source = t; ending = WithoutMemory }

first_line : {h : Contents} {s : SourceAnswers} {line : List ℕ} {lines : List (List ℕ)} {run : Run}
    → RunsTo h s (line ∷ lines) run → (r : Reply) × Replies h s (command_of line) r × GoesOn h s lines r run
first_line (says h g s t line lines text run owed rest) = (Says text g t, owed, (run, rest, refl))
first_line (lists h s line lines text run owed rest) = (Lists text, owed, (run, rest, refl))
first_line (ends h s line lines owed) = (Ends, owed, refl)
first_line (lacks h s t line lines owed) = (Lacks t, owed, refl)

-- the same from the reply that the line is owed
goes_on : (h : Contents) (s : SourceAnswers) (line : List ℕ) (lines : List (List ℕ)) (r : Reply) (run : Run)
    → Replies h s (command_of line) r → RunsTo h s (line ∷ lines) run → GoesOn h s lines r run
goes_on h s line lines r run owed d =
    let first = first_line d in
    subst (λ x. GoesOn h s lines x run) (one_reply h s (command_of line) first.0 r first.1 owed) first.2

pub one_run : {h : Contents} {s : SourceAnswers} {lines : List (List ℕ)} {q r : Run} → RunsTo h s lines q → RunsTo h s lines r → q ≡ r
one_run (at_eof h s) (at_eof g t) = refl
one_run {r = r} (says h g s t line lines text run owed rest) d =
    let more = goes_on h s line lines (Says text g t) r owed d in
    ap (after_text text) (one_run rest more.1) ∙ sym more.2
one_run {r = r} (lists h s line lines text run owed rest) d =
    let more = goes_on h s line lines (Lists text) r owed d in
    ap (after_text text) (one_run rest more.1) ∙ sym more.2
one_run {r = r} (ends h s line lines owed) d = sym (goes_on h s line lines Ends r owed d)
one_run {r = r} (lacks h s t line lines owed) d = sym (goes_on h s line lines (Lacks t) r owed d)
