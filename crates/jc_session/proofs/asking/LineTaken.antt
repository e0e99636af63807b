-- The arguments in which `clap` finds no fault: a command, and then the arguments that this command takes.
use Rattle.std.proofs.Common.{◌≡◌, ◌∙◌, ◌⊎◌, ℕ, ◌∷◌, ◌||◌, Bool, List, Option, Some, None, [], ap, codes, cond, eqb, false, inl, inr, refl, subst, sym, true}
use Rattle.std.specs.Option.{option_map_or}
use Rattle.std.specs.Str.{bytes_eq, chars}
use Rattle.std.specs.Prelude.{slice_get}
use Rattle.std.proofs.lemmas.Slice.Eq.{bytes_eq-Decides}
use Rattle.clap.specs.Faults.{entered_fault, fault_of, is_simple_and_free, level_fault, flag_word_fault, other_fault, step_fault, walk_fault, bundle_step_fault, bundle_fault, long_fault, short_fault}
use Rattle.clap.specs.Kinds.{Kinds, or_else}
use Rattle.clap.specs.Lexer.{long_of, short_of}
use Rattle.clap.specs.Simple.{Shape, built, built_leaf, entered, filled, help_rule, inherited, marked_built, names_of, subcommand_of, with_leaf_noted}
use Rattle.clap.specs.Walk.{Held, Names, Rule, Text, idle, long_or_other, nothing_held, rows_after, subcommand_met, subcommand_or_other, walk, walk_from, bundle_step, plain, Outcome, after_flag, short_or_plain, trailing}
use Rattle.clap.specs.declared.error.kind.ErrorKind.TheVariants.{DisplayHelp, InvalidSubcommand, UnknownArgument}
use Rattle.clap.proofs.OnLiterals.{clap_on_literals}
use Rattle.clap.proofs.WalkLemmas.{walk_stopped}
use Rattle.jc_session.specs.Words.{Word, check_command, jclink_command, list_command, session_command}

pub line_is_free : is_simple_and_free jclink_command ≡ true
unfolding clap_on_literals
line_is_free = refl

-- the commands as `clap` builds them
abbrev above : Shape
above = with_leaf_noted (marked_built jclink_command.top)

abbrev pub built_session : Shape
built_session = built_leaf (inherited above session_command.top)

abbrev pub built_list : Shape
built_list = built_leaf (inherited above list_command.top)

abbrev pub built_check : Shape
built_check = built_leaf (inherited above check_command.top)

pub both_pass : (a b : Kinds) → or_else a b ≡ [] → (a ≡ []) × (b ≡ [])
both_pass [] b e = (refl, e)
both_pass (k ∷ ks) b e = cc

-- the arguments begin with the command, it has no fault at the others, and `clap` finds its rows
abbrev pub IsTakenBy : Shape → List Word → Type 0
IsTakenBy s words =
    (rest : List Word) × (words ≡ s.name ∷ rest) × (subcommand_of jclink_command words ≡ Some (s.name, rows_after s.rules [] rest))
    × (level_fault s [] nothing_held rest false [] ≡ [])

abbrev top : Shape
top = (built jclink_command).top

abbrev names : Names
names = names_of (built jclink_command)

no_word : fault_of jclink_command [] ≡ [] → ⊥
unfolding clap_on_literals
no_word e = cc

-- ---- the first argument is no command

abbrev help_arg : Rule
help_arg = filled help_rule

by_long : (b : Bool) (value : Option Text) (more : Kinds) → or_else (long_fault top.rules false (cond b (Some help_arg) None) value nothing_held) more ≡ [] → ⊥
by_long true None more e = cc
by_long true (Some v) more e = cc
by_long false value more e = cc

by_short : (b : Bool) (flags : Text) (next : Held → Kinds) (more : Kinds)
    → or_else (short_fault top.rules false (cond b (Some help_arg) None) flags nothing_held next) more ≡ [] → ⊥
by_short true flags next more e = cc
by_short false flags next more e = cc

-- it is a bundle of flags
bundled : (word flags rest : Text) (first : Option ℕ) (next : Text → ℕ → Held → Kinds) (on : Text → ℕ → Outcome → Held → Held × Outcome)
    → or_else (bundle_step_fault top.rules false first flags 0 nothing_held next)
    (step_fault top 1 (after_flag top.rules idle word (bundle_step top.rules first flags 0 plain nothing_held on).0 (bundle_step top.rules first flags 0 plain nothing_held on).1).0
    (after_flag top.rules idle word (bundle_step top.rules first flags 0 plain nothing_held on).0 (bundle_step top.rules first flags 0 plain nothing_held on).1).1) ≡ [] → ⊥
bundled word flags rest None next on e = cc
bundled word flags rest (Some x) next on e = by_short (eqb 104 x || false) _ _ _ e

by_flags : (word : Text) (flags : Option Text) → or_else (option_map_or (λ f. bundle_fault top.rules false f nothing_held) flags [])
    (step_fault top 1 (short_or_plain top.rules idle word flags nothing_held).0 (short_or_plain top.rules idle word flags nothing_held).1) ≡ [] → ⊥
unfolding clap_on_literals
by_flags word None e = cc
by_flags word (Some []) e = cc
by_flags word (Some (x ∷ xs)) e = bundled word (x ∷ xs) xs (slice_get (chars (x ∷ xs)) 0) _ _ e

-- no option and no path takes the first argument
other_word : (word : Text) (long : Option (Text × Option Text)) → or_else (flag_word_fault top.rules false long word nothing_held)
    (step_fault top 1 (long_or_other top.rules idle word long nothing_held).0 (long_or_other top.rules idle word long nothing_held).1) ≡ [] → ⊥
other_word word (Some p) e = by_long (bytes_eq (codes "help") p.0 || false) p.1 _ e
other_word word None e = by_flags word (short_of word) e

-- it is neither a command nor `help`
module _ (word : Text) (rest : List Text) where
  none_met : bytes_eq (codes "session") word ≡ false → bytes_eq (codes "list") word ≡ false → bytes_eq (codes "check") word ≡ false
      → bytes_eq (codes "help") word ≡ false → subcommand_met names idle word ≡ None
  none_met s l c h = rw (s, l, c, h) refl

  no_dashes : (b : Bool) → or_else (cond b [] (flag_word_fault top.rules false (long_of word) word nothing_held))
      (step_fault top 1 (cond b (nothing_held, trailing 1) (long_or_other top.rules idle word (long_of word) nothing_held)).0
      (cond b (nothing_held, trailing 1) (long_or_other top.rules idle word (long_of word) nothing_held)).1) ≡ [] → b ≡ true
  no_dashes true e = refl
  no_dashes false e = absurd (other_word word (long_of word) e)

  -- the faults of the first argument, by the command that it names
  abbrev turn_by : Option Text → Kinds
  turn_by met = or_else (other_fault top met word nothing_held)
      (step_fault top 1 (subcommand_or_other top.rules met idle 1 word nothing_held).0 (subcommand_or_other top.rules met idle 1 word nothing_held).1)

  first_turn : fault_of jclink_command (word ∷ rest) ≡ [] → turn_by (subcommand_met names idle word) ≡ []
  unfolding clap_on_literals
  first_turn e = (both_pass _ _ (both_pass _ _ e).0).0

dashes_first : (rest : List Text) → fault_of jclink_command ((45 ∷ 45 ∷ []) ∷ rest) ≡ [] → ⊥
unfolding clap_on_literals
dashes_first [] e = cc
dashes_first (word ∷ rest) e = let h : ◌≡◌ {A = Kinds} (UnknownArgument ∷ InvalidSubcommand ∷ []) [] = e in cc

help_first : (rest : List Text) → fault_of jclink_command (codes "help" ∷ rest) ≡ [] → ⊥
unfolding clap_on_literals
help_first rest e = let h : ◌≡◌ {A = Kinds} (DisplayHelp ∷ InvalidSubcommand ∷ []) [] = e in cc

no_command : (word : Text) (rest : List Text) → bytes_eq (codes "session") word ≡ false → bytes_eq (codes "list") word ≡ false → bytes_eq (codes "check") word ≡ false
    → fault_of jclink_command (word ∷ rest) ≡ [] → ⊥
no_command word rest s l c e = by_help (bytes_eq (codes "help") word) refl
  where
    by_help : (h : Bool) → bytes_eq (codes "help") word ≡ h → ⊥
    by_help true h = help_first rest (subst (λ w. fault_of jclink_command (w ∷ rest) ≡ []) (sym ((bytes_eq-Decides (codes "help") word).0 h)) e)
    by_help false h =
        let turn : turn_by word rest None ≡ [] = subst (λ o. turn_by word rest o ≡ []) (none_met word rest s l c h) (first_turn word rest e) in
        let dashes : word ≡ 45 ∷ 45 ∷ [] = (bytes_eq-Decides word (45 ∷ 45 ∷ [])).0 (no_dashes word rest (bytes_eq word (45 ∷ 45 ∷ [])) turn) in
        dashes_first rest (subst (λ w. fault_of jclink_command (w ∷ rest) ≡ []) dashes e)

-- ---- the first argument is a command

module _ (command : Shape) (rest : List Text)
    (stops : (walk top.rules names nothing_held (command.name ∷ rest)).stopped ≡ Some (command.name, rest))
    (enters : entered (built jclink_command) (Some (command.name, rest)) ≡ Some (command.name, rows_after command.rules [] rest))
    (fails : entered_fault (built jclink_command) (Some (command.name, rest)) ≡ level_fault command [] nothing_held rest false []) where
  taken_by : fault_of jclink_command (command.name ∷ rest) ≡ [] → IsTakenBy command (command.name ∷ rest)
  taken_by e =
      let walks = both_pass (walk_fault top names (walk_from nothing_held) (command.name ∷ rest)) _ e in
      let below = both_pass (entered_fault (built jclink_command) (walk top.rules names nothing_held (command.name ∷ rest)).stopped) _ walks.1 in (
        rest,
        refl,
        ap (entered (built jclink_command)) stops ∙ enters,
        sym fails ∙ ap (entered_fault (built jclink_command)) (sym stops) ∙ below.0,
      )

session_taken : (rest : List Text) → fault_of jclink_command (codes "session" ∷ rest) ≡ [] → IsTakenBy built_session (codes "session" ∷ rest)
unfolding clap_on_literals
session_taken rest = taken_by built_session rest (ap (λ w. w.stopped) (sym (walk_stopped top.rules names (walk_from nothing_held) (codes "session") [] rest))) refl refl

list_taken : (rest : List Text) → fault_of jclink_command (codes "list" ∷ rest) ≡ [] → IsTakenBy built_list (codes "list" ∷ rest)
unfolding clap_on_literals
list_taken rest = taken_by built_list rest (ap (λ w. w.stopped) (sym (walk_stopped top.rules names (walk_from nothing_held) (codes "list") [] rest))) refl refl

check_taken : (rest : List Text) → fault_of jclink_command (codes "check" ∷ rest) ≡ [] → IsTakenBy built_check (codes "check" ∷ rest)
unfolding clap_on_literals
check_taken rest = taken_by built_check rest (ap (λ w. w.stopped) (sym (walk_stopped top.rules names (walk_from nothing_held) (codes "check") [] rest))) refl refl

abbrev pub IsTaken : List Word → Type 0
IsTaken words = IsTakenBy built_session words ⊎ IsTakenBy built_list words ⊎ IsTakenBy built_check words

-- where `clap` finds no fault, the first argument is a command, which takes the others
pub line_taken : (words : List Text) → fault_of jclink_command words ≡ [] → IsTaken words
line_taken [] e = absurd (no_word e)
line_taken (word ∷ rest) e = by_session (bytes_eq (codes "session") word) refl
  where
    as_named : (name : Text) → bytes_eq name word ≡ true → (fault_of jclink_command (name ∷ rest) ≡ [] → IsTaken (name ∷ rest)) → IsTaken (word ∷ rest)
    as_named name is taken =
        let same = (bytes_eq-Decides name word).0 is in
        subst (λ w. IsTaken (w ∷ rest)) same (taken (subst (λ w. fault_of jclink_command (w ∷ rest) ≡ []) (sym same) e))

    by_check : (c : Bool) → bytes_eq (codes "session") word ≡ false → bytes_eq (codes "list") word ≡ false → bytes_eq (codes "check") word ≡ c → IsTaken (word ∷ rest)
    by_check true s l c = as_named (codes "check") c (λ passes. inr (inr (check_taken rest passes)))
    by_check false s l c = absurd (no_command word rest s l c e)

    by_list : (l : Bool) → bytes_eq (codes "session") word ≡ false → bytes_eq (codes "list") word ≡ l → IsTaken (word ∷ rest)
    by_list true s l = as_named (codes "list") l (λ passes. inr (inl (list_taken rest passes)))
    by_list false s l = by_check (bytes_eq (codes "check") word) s l refl

    by_session : (s : Bool) → bytes_eq (codes "session") word ≡ s → IsTaken (word ∷ rest)
    by_session true s = as_named (codes "session") s (λ passes. inl (session_taken rest passes))
    by_session false s = by_list (bytes_eq (codes "list") word) s refl
