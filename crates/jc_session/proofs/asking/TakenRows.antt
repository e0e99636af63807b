-- What the rows of a command have where `clap` finds no fault: the path that it requires, and the texts of its flags.
use Rattle.std.proofs.Common.{◌≡◌, ◌∙◌, ◌⊎◌, ◌∷◌, ◌++◌, ◌||◌, Bool, List, Option, Some, None, [], ap, codes, cond, false, find, eqb, length, ⊎_elim, ne_eqb, arith, fold, inl, inr, option_and_then, option_map, not, refl, slice_get, subst, sym, true, unwrap_or}
use Rattle.std.specs.Prelude.{⊤}
use Rattle.std.specs.Option.{option_map_or}
use Rattle.std.specs.Str.{bytes_eq}
use Rattle.std.proofs.lemmas.Bool.{false≢true}
use Rattle.std.proofs.lemmas.Slice.Eq.{bytes_eq-Decides}
use Rattle.clap.specs.Facts.{explicit_source}
use Rattle.clap.specs.Faults.{check_fault, defaults_fault, level_fault, settle_fault, walk_fault}
use Rattle.clap.specs.Simple.{Shape, filled, help_rule, with_index}
use Rattle.clap.specs.Takes.{is_given}
use Rattle.clap.specs.Values.{read_as}
use Rattle.clap.specs.Walk.{Held, Row, Rule, Text, default_rows, finished, first_of, has_row, more_values, nothing_held, one_of, reading_by, row_text, rows_after, stronger, settled, walk, walk_from, with_default, with_values}
use Rattle.clap.specs.declared.builder.value_parser.Reading.{Reading}
use Rattle.clap.specs.declared.error.kind.ErrorKind.TheVariants.{MissingRequiredArgument}
use Rattle.clap.specs.declared.parser.matches.ValueSource.{ValueSource}
use Rattle.clap.specs.declared.parser.matches.ValueSource.TheVariants.{CommandLine, DefaultValue}
use Rattle.jc_session.specs.Words.{flag, path_wanted, prefix_option}
use Rattle.jc_session.proofs.asking.LineTaken.{both_pass, built_check, built_list}
use Rattle.jc_session.proofs.asking.RowsFilled.{FirstFits, Fits, RowFits, RowsFit, UseFits, UsesFit, settled_fits, walk_fits, with_values_fit, without_fits}

-- ---- what fits the options of the command line: for a flag a text that is read as `true` or `false`

abbrev is_flag : Text → Bool
is_flag id = bytes_eq id (codes "errors") || bytes_eq id (codes "used")

abbrev TextFits : Fits
TextFits id how text = is_flag id ≡ true → (read_as how text ≡ codes "true") ⊎ (read_as how text ≡ codes "false")

abbrev path_rule : Text → Rule
path_rule name = with_index 1 (filled (path_wanted name))

abbrev prefix_rule : Text → Rule
prefix_rule name = filled (prefix_option name)

abbrev flag_rule : Text → Rule
flag_rule name = filled (flag name)

file_uses : UseFits TextFits (path_rule (codes "FILE"))
file_uses again [] rows e all = cc
file_uses again (v ∷ vs) rows e all = with_values_fit TextFits (codes "FILE") _ CommandLine (v ∷ vs) _ (λ is. absurd (false≢true is)) (without_fits TextFits (codes "FILE") rows all)

folder_uses : UseFits TextFits (path_rule (codes "DIR"))
folder_uses again [] rows e all = cc
folder_uses again (v ∷ vs) rows e all = with_values_fit TextFits (codes "DIR") _ CommandLine (v ∷ vs) _ (λ is. absurd (false≢true is)) (without_fits TextFits (codes "DIR") rows all)

only_uses : UseFits TextFits (prefix_rule (codes "only"))
only_uses again [] rows e all = cc
only_uses again (v ∷ vs) rows e all = with_values_fit TextFits (codes "only") _ CommandLine (v ∷ vs) rows (λ is. absurd (false≢true is)) all

outside_uses : UseFits TextFits (prefix_rule (codes "outside"))
outside_uses again [] rows e all = cc
outside_uses again (v ∷ vs) rows e all = with_values_fit TextFits (codes "outside") _ CommandLine (v ∷ vs) rows (λ is. absurd (false≢true is)) all

errors_uses : UseFits TextFits (flag_rule (codes "errors"))
errors_uses again [] rows e all = with_values_fit TextFits (codes "errors") _ CommandLine (codes "true" ∷ []) _ (λ is. inl refl) (without_fits TextFits (codes "errors") rows all)
errors_uses again (v ∷ vs) rows e all =
    let many : eqb 0 (length (v ∷ vs)) ≡ false = ne_eqb 0 (length (v ∷ vs)) (λ z. omega arith) in
    let fault = rw many at e in cc

used_uses : UseFits TextFits (flag_rule (codes "used"))
used_uses again [] rows e all = with_values_fit TextFits (codes "used") _ CommandLine (codes "true" ∷ []) _ (λ is. inl refl) (without_fits TextFits (codes "used") rows all)
used_uses again (v ∷ vs) rows e all =
    let many : eqb 0 (length (v ∷ vs)) ≡ false = ne_eqb 0 (length (v ∷ vs)) (λ z. omega arith) in
    let fault = rw many at e in cc

help_uses : UseFits TextFits (filled help_rule)
help_uses again values rows e all = all

list_uses : UsesFit TextFits built_list.rules
list_uses = (file_uses, (help_uses, tt))

check_uses : UsesFit TextFits built_check.rules
check_uses = (errors_uses, (used_uses, (only_uses, (outside_uses, (folder_uses, (help_uses, tt))))))

-- ---- defaults

module _ (fits : Fits) where
  abbrev DefaultsFit : Text → Reading → List Text → Type 0
  DefaultsFit id how [] = ⊤
  DefaultsFit id how (v ∷ vs) = fits id how v

  default_fits : (a : Rule) (rows : List Row) → DefaultsFit a.id (reading_by a) a.defaults → RowsFit fits rows → RowsFit fits (with_default rows a)
  default_fits a rows own all = there (has_row a.id rows)
    where
      given : (values : List Text) → DefaultsFit a.id (reading_by a) values → RowsFit fits (default_rows a.id (reading_by a) values rows)
      given [] first = all
      given (v ∷ vs) first = with_values_fit fits a.id (reading_by a) DefaultValue (v ∷ vs) rows first all

      there : (b : Bool) → RowsFit fits (cond b rows (default_rows a.id (reading_by a) a.defaults rows))
      there true = all
      there false = given a.defaults own

  abbrev EachDefaultFits : List Rule → Type 0
  EachDefaultFits [] = ⊤
  EachDefaultFits (a ∷ rules) = DefaultsFit a.id (reading_by a) a.defaults × EachDefaultFits rules

  each_default_fits : (rules : List Rule) (rows : List Row) → EachDefaultFits rules → RowsFit fits rows → RowsFit fits (fold with_default rows rules)
  each_default_fits [] rows own all = all
  each_default_fits (a ∷ rules) rows own all = each_default_fits rules (with_default rows a) own.1 (default_fits a rows own.0 all)

  found_row : (p : Row → Bool) (rows : List Row) (r : Row) → RowsFit fits rows → find p rows ≡ Some r → RowFits fits r × (p r ≡ true)
  found_row p [] r all found = cc
  found_row p (x ∷ rows) r all found = here (p x) refl (λ is. found_row p rows r all.1 is) found
    where
      here : (b : Bool) → p x ≡ b → (find p rows ≡ Some r → RowFits fits r × (p r ≡ true)) → cond b (Some x) (find p rows) ≡ Some r → RowFits fits r × (p r ≡ true)
      here true passes rest is = subst (λ y. RowFits fits y × (p y ≡ true)) (ap (λ o. unwrap_or o x) is) (all.0, passes)
      here false passes rest is = rest is

no_default : (a : Rule) (rows : List Row) → a.defaults ≡ [] → with_default rows a ≡ rows
no_default a rows none = ap (λ values. cond (has_row a.id rows) rows (default_rows a.id (reading_by a) values rows)) none ∙ same (has_row a.id rows)
  where
    same : (b : Bool) → cond b rows rows ≡ rows
    same true = refl
    same false = refl

-- ---- the path that a command requires

is_wanted : (given : Bool) → cond (not given || false) (MissingRequiredArgument ∷ []) [] ≡ [] → given ≡ true
is_wanted true e = refl
is_wanted false e = cc

first_there : (id : Text) (rows : List Row) → RowsFit TextFits rows → is_given id rows ≡ true → (path : Text) × (first_of id rows ≡ Some path)
first_there id rows all given = row (find (λ r. bytes_eq r.id id) rows) refl given
  where
    value : (r : Row) → (values : List Text) → FirstFits TextFits r.id r.reading values → (path : Text) × (slice_get values 0 ≡ Some path)
    value r [] first = absurd first
    value r (v ∷ vs) first = (v, refl)

    row : (o : Option Row) → find (λ r. bytes_eq r.id id) rows ≡ o → option_map_or (λ r. explicit_source r.source) o false ≡ true → (path : Text) × (option_and_then (λ r. slice_get r.values 0) o ≡ Some path)
    row None is e = cc
    row (Some r) is e = value r r.values (found_row TextFits (λ x. bytes_eq x.id id) rows r all is).0

module _ (s : Shape) (words : List Text) (passes : level_fault s [] nothing_held words false [] ≡ []) (uses : UsesFit TextFits s.rules) where
  abbrev ending : Held
  ending = (walk s.rules [] nothing_held words).held

  walk_passes : walk_fault s [] (walk_from nothing_held) words ≡ []
  walk_passes = (both_pass (walk_fault s [] (walk_from nothing_held) words) _ passes).0

  settle_passes : settle_fault s.rules s.args_override_self ending ≡ []
  settle_passes = (both_pass (settle_fault s.rules s.args_override_self ending) _ (both_pass (walk_fault s [] (walk_from nothing_held) words) _ passes).1).0

  check_passes : check_fault s (finished s.rules ending) false ≡ []
  check_passes = (both_pass (defaults_fault (settled s.rules ending).rows s.rules) _ (both_pass (settle_fault s.rules s.args_override_self ending) _ (both_pass (walk_fault s [] (walk_from nothing_held) words) _ passes).1).1).1

  end_fits : RowsFit TextFits (settled s.rules ending).rows
  end_fits = settled_fits TextFits s.rules s.args_override_self uses ending settle_passes (walk_fits TextFits s [] uses (walk_from nothing_held) words walk_passes tt)

  rows_fit : EachDefaultFits TextFits s.rules → RowsFit TextFits (rows_after s.rules [] words)
  rows_fit own = each_default_fits TextFits s.rules (settled s.rules ending).rows own end_fits

list_defaults : EachDefaultFits TextFits built_list.rules
list_defaults = (tt, (tt, tt))

check_defaults : EachDefaultFits TextFits built_check.rules
check_defaults = ((λ is. inr refl), ((λ is. inr refl), (tt, (tt, (tt, (tt, tt))))))

pub list_path : (words : List Text) → level_fault built_list [] nothing_held words false [] ≡ [] → (path : Text) × (first_of (codes "FILE") (rows_after built_list.rules [] words) ≡ Some path)
list_path words passes =
    let rows = rows_after built_list.rules [] words in
    first_there (codes "FILE") rows (rows_fit built_list words passes list_uses list_defaults) (is_wanted (is_given (codes "FILE") rows) (check_passes built_list words passes list_uses))

pub check_path : (words : List Text) → level_fault built_check [] nothing_held words false [] ≡ [] → (path : Text) × (first_of (codes "DIR") (rows_after built_check.rules [] words) ≡ Some path)
check_path words passes =
    let rows = rows_after built_check.rules [] words in
    first_there (codes "DIR") rows (rows_fit built_check words passes check_uses check_defaults) (is_wanted (is_given (codes "DIR") rows) (check_passes built_check words passes check_uses))

-- ---- the flags

-- the row with an id
abbrev Finds : Text → List Row → Type 0
Finds id rows = (r : Row) × (find (λ x. bytes_eq x.id id) rows ≡ Some r)

finds_added : (id : Text) (how : Reading) (source : ValueSource) (values : List Text) (rows : List Row) → Finds id (with_values id how source values rows)
finds_added id how source values [] =
    let added : Row = record { id = id; values = values; count = None; source = Some source; reading = how } in
    (added, ap (λ b. cond b (Some added) None) ((bytes_eq-Decides id id).1 refl))
finds_added id how source values (r ∷ rows) = here (bytes_eq r.id id) refl (finds_added id how source values rows)
  where
    here : (b : Bool) → bytes_eq r.id id ≡ b → Finds id (with_values id how source values rows) → Finds id (cond b (more_values source values r ++ rows) (r ∷ with_values id how source values rows))
    here true is rest =
        let grown : Row = record r { values = r.values ++ values; source = Some (stronger r.source source) } in
        (grown, ap (λ b. cond b (Some grown) (find (λ x. bytes_eq x.id id) rows)) is)
    here false is rest = (rest.0, ap (λ b. cond b (Some r) (find (λ x. bytes_eq x.id id) (with_values id how source values rows))) is ∙ rest.1)

finds_there : (id : Text) (rows : List Row) → has_row id rows ≡ true → Finds id rows
finds_there id [] has = cc
finds_there id (r ∷ rows) has = here (bytes_eq r.id id) (λ rest. finds_there id rows rest) has
  where
    here : (b : Bool) → (has_row id rows ≡ true → Finds id rows) → (b || has_row id rows) ≡ true → (x : Row) × (cond b (Some r) (find (λ y. bytes_eq y.id id) rows) ≡ Some x)
    here true rest is = (r, refl)
    here false rest is = rest is

-- and is still there beside the values of another
finds_kept : (id other : Text) (how : Reading) (source : ValueSource) (values : List Text) (rows : List Row) → Finds id rows → Finds id (with_values other how source values rows)
finds_kept id other how source values [] found = let none = found.1 in absurd cc
finds_kept id other how source values (r ∷ rows) found = here (bytes_eq r.id id) refl (λ rest. finds_kept id other how source values rows rest) found
  where
    grown : Row
    grown = record r { values = r.values ++ values; source = Some (stronger r.source source) }

    grows : Bool → List Row
    grows c = cond c (more_values source values r ++ rows) (r ∷ with_values other how source values rows)

    here : (b : Bool) → bytes_eq r.id id ≡ b → (Finds id rows → Finds id (with_values other how source values rows)) → Finds id (r ∷ rows) → Finds id (grows (bytes_eq r.id other))
    here true is rest found = own (bytes_eq r.id other)
      where
        own : (c : Bool) → Finds id (grows c)
        own true = (grown, ap (λ b. cond b (Some grown) (find (λ x. bytes_eq x.id id) rows)) is)
        own false = (r, ap (λ b. cond b (Some r) (find (λ x. bytes_eq x.id id) (with_values other how source values rows))) is)
    here false is rest found = own (bytes_eq r.id other)
      where
        later : Finds id rows
        later = (found.0, sym (ap (λ b. cond b (Some r) (find (λ x. bytes_eq x.id id) rows)) is) ∙ found.1)

        own : (c : Bool) → Finds id (grows c)
        own true = (later.0, ap (λ b. cond b (Some grown) (find (λ x. bytes_eq x.id id) rows)) is ∙ later.1)
        own false = let more = rest later in (more.0, ap (λ b. cond b (Some r) (find (λ x. bytes_eq x.id id) (with_values other how source values rows))) is ∙ more.1)

finds_default : (id : Text) (a : Rule) (rows : List Row) → Finds id rows → Finds id (with_default rows a)
finds_default id a rows found = there (has_row a.id rows)
  where
    given : (values : List Text) → Finds id (default_rows a.id (reading_by a) values rows)
    given [] = found
    given (v ∷ vs) = finds_kept id a.id (reading_by a) DefaultValue (v ∷ vs) rows found

    there : (b : Bool) → Finds id (cond b rows (default_rows a.id (reading_by a) a.defaults rows))
    there true = found
    there false = given a.defaults

-- a default adds a row, where there is none
finds_flag : (name : Text) (rows : List Row) → Finds name (with_default rows (flag_rule name))
finds_flag name rows = there (has_row name rows) refl
  where
    there : (b : Bool) → has_row name rows ≡ b → Finds name (cond b rows (with_values name (reading_by (flag_rule name)) DefaultValue (codes "false" ∷ []) rows))
    there true is = finds_there name rows is
    there false is = finds_added name (reading_by (flag_rule name)) DefaultValue (codes "false" ∷ []) rows

-- the flag has one of the two texts
abbrev IsRead : Text → List Row → Type 0
IsRead name rows = (one_of name rows ≡ Some (codes "true")) ⊎ (one_of name rows ≡ Some (codes "false"))

flag_read : (name : Text) → ((id : Text) → bytes_eq id name ≡ true → is_flag id ≡ true) → (rows : List Row) → RowsFit TextFits rows → Finds name rows → IsRead name rows
flag_read name among rows all (r, is) = subst (λ o. (option_and_then row_text o ≡ Some (codes "true")) ⊎ (option_and_then row_text o ≡ Some (codes "false"))) (sym is) (value r.values own.0)
  where
    own : RowFits TextFits r × (bytes_eq r.id name ≡ true)
    own = found_row TextFits (λ x. bytes_eq x.id name) rows r all is

    value : (values : List Text) → FirstFits TextFits r.id r.reading values
        → (option_map (read_as r.reading) (slice_get values 0) ≡ Some (codes "true")) ⊎ (option_map (read_as r.reading) (slice_get values 0) ≡ Some (codes "false"))
    value [] first = absurd first
    value (v ∷ vs) first = ⊎_elim (λ yes. inl (ap Some yes)) (λ no. inr (ap Some no)) (first (among r.id own.1))

or_first : (a b : Bool) → a ≡ true → (a || b) ≡ true
or_first true b e = refl
or_first false b e = absurd cc

or_second : (a b : Bool) → b ≡ true → (a || b) ≡ true
or_second true b e = refl
or_second false b e = e

pub check_flags : (words : List Text) → level_fault built_check [] nothing_held words false [] ≡ []
    → IsRead (codes "errors") (rows_after built_check.rules [] words) × IsRead (codes "used") (rows_after built_check.rules [] words)
check_flags words passes =
    let rows = rows_after built_check.rules [] words in
    let start = (settled built_check.rules (walk built_check.rules [] nothing_held words).held).rows in
    let flagged = with_default start (flag_rule (codes "errors")) in
    let both = with_default flagged (flag_rule (codes "used")) in
    let one = no_default (prefix_rule (codes "only")) both refl in
    let two = no_default (prefix_rule (codes "outside")) _ refl ∙ one in
    let three = no_default (path_rule (codes "DIR")) _ refl ∙ two in
    let same : rows ≡ both = no_default (filled help_rule) _ refl ∙ three in
    let fit = rows_fit built_check words passes check_uses check_defaults in
    let errors = finds_default (codes "errors") (flag_rule (codes "used")) flagged (finds_flag (codes "errors") start) in
    let used = finds_flag (codes "used") flagged in (
      flag_read (codes "errors") (λ id e. or_first (bytes_eq id (codes "errors")) (bytes_eq id (codes "used")) e) rows fit (subst (Finds (codes "errors")) (sym same) errors),
      flag_read (codes "used") (λ id e. or_second (bytes_eq id (codes "errors")) (bytes_eq id (codes "used")) e) rows fit (subst (Finds (codes "used")) (sym same) used),
    )
