-- The rows that `clap` finds where it finds no fault: each has a first value, which fits its argument.
use Rattle.std.proofs.Common.{◌≡◌, ◌∷◌, ◌++◌, ◌&&◌, Bool, ℕ, suc, zero, drop, length, not, List, Option, Some, None, [], ap, cond, false, find, fold, unwrap_or, is_some, refl, subst, true, encode_utf8, slice_get}
use Rattle.std.specs.Prelude.{⊤}
use Rattle.std.specs.Option.{option_map_or}
use Rattle.std.specs.Str.{bytes_eq, chars}
use Rattle.clap.specs.Faults.{use_fault, settle_fault, react_fault, option_fault, long_fault, short_fault, bundle_step_fault, flags_fault, bundle_fault, flag_word_fault, other_fault, step_fault, stray_fault, positional_fault, turn_fault, walk_fault, word_fault}
use Rattle.clap.specs.Kinds.{Kinds, or_else}
use Rattle.clap.specs.Lexer.{long_of, short_of}
use Rattle.clap.specs.Simple.{Shape}
use Rattle.clap.specs.Walk.{Held, Names, Outcome, Row, Rule, Step, Text, Waiting, Walk, after_flag, after_step, arg_by_id, arg_by_index, arg_by_long, arg_by_short, attached_value, bundle, bundle_met, bundle_step, done, flag_met, has_long, has_short, idle, is_pending, long_met, long_or_other, more_values, next, option, option_met, option_word, plain, plain_word, positional, positional_held, reacted, refused, settled, settled_rows, short_met, short_or_plain, subcommand, subcommand_met, subcommand_or_other, takes_several, takes_values, to_positional, trailing, used, used_by_id, value, waits, walked, walked_from, with_values, without, word_met}
use Rattle.clap.specs.declared.builder.value_parser.Reading.{Reading}
use Rattle.clap.specs.declared.parser.matches.ValueSource.{ValueSource}
use Rattle.clap.specs.declared.error.kind.ErrorKind.TheVariants.{TooManyValues}
use Rattle.jc_session.proofs.asking.LineTaken.{both_pass}

-- what fits: a value of the argument with an id, as it is read
abbrev pub Fits : Type 1
Fits = (id : Text) → Reading → Text → Type 0

abbrev pub FirstFits : Fits → Text → Reading → List Text → Type 0
FirstFits fits id how [] = ⊥
FirstFits fits id how (v ∷ vs) = fits id how v

abbrev pub RowFits : Fits → Row → Type 0
RowFits fits r = FirstFits fits r.id r.reading r.values

abbrev pub RowsFit : Fits → List Row → Type 0
RowsFit fits [] = ⊤
RowsFit fits (r ∷ rows) = RowFits fits r × RowsFit fits rows

module _ (fits : Fits) where
  more_fits : (id : Text) (how : Reading) (values more : List Text) → FirstFits fits id how values → FirstFits fits id how (values ++ more)
  more_fits id how [] more h = absurd h
  more_fits id how (v ∷ vs) more h = h

  pub with_values_fit : (id : Text) (how : Reading) (source : ValueSource) (values : List Text) (rows : List Row)
      → FirstFits fits id how values → RowsFit fits rows → RowsFit fits (with_values id how source values rows)
  with_values_fit id how source values [] first all = (first, tt)
  with_values_fit id how source values (r ∷ rows) first all = here (bytes_eq r.id id) (with_values_fit id how source values rows first all.1)
    where
      here : (b : Bool) → RowsFit fits (with_values id how source values rows) → RowsFit fits (cond b (more_values source values r ++ rows) (r ∷ with_values id how source values rows))
      here true rest = (more_fits r.id r.reading r.values values all.0, all.1)
      here false rest = (all.0, rest)

  pub without_fits : (id : Text) (rows : List Row) → RowsFit fits rows → RowsFit fits (without id rows)
  without_fits id [] all = tt
  without_fits id (r ∷ rows) all = here (bytes_eq r.id id) (without_fits id rows all.1)
    where
      here : (b : Bool) → RowsFit fits (without id rows) → RowsFit fits (cond b rows (r ∷ without id rows))
      here true rest = all.1
      here false rest = (all.0, rest)

  -- a use of the argument that passes leaves rows that fit
  abbrev pub UseFits : Rule → Type 0
  UseFits a = (again : Bool) (values : List Text) (rows : List Row) → use_fault again a values rows ≡ [] → RowsFit fits rows → RowsFit fits (used a values rows)

  abbrev pub UsesFit : List Rule → Type 0
  UsesFit [] = ⊤
  UsesFit (a ∷ rules) = UseFits a × UsesFit rules

  found_fits : (p : Rule → Bool) (rules : List Rule) (a : Rule) → UsesFit rules → find p rules ≡ Some a → UseFits a
  found_fits p [] a all found = cc
  found_fits p (x ∷ rules) a all found = here (p x) (λ is. found_fits p rules a all.1 is) found
    where
      here : (b : Bool) → (find p rules ≡ Some a → UseFits a) → cond b (Some x) (find p rules) ≡ Some a → UseFits a
      here true rest is = subst UseFits (ap (λ o. unwrap_or o x) is) all.0
      here false rest is = rest is

  module _ (rules : List Rule) (again : Bool) (all : UsesFit rules) where
    pub settled_fits : (h : Held) → settle_fault rules again h ≡ [] → RowsFit fits h.rows → RowsFit fits (settled rules h).rows
    settled_fits h e held = pending h.pending e
      where
        pending : (p : Option (Text × List Text)) → option_map_or (λ q. option_map_or (λ a. use_fault again a q.1 h.rows) (arg_by_id rules q.0) []) p [] ≡ []
            → RowsFit fits (settled_rows rules p h.rows)
        pending None passes = held
        pending (Some q) passes = found (arg_by_id rules q.0) refl passes
          where
            found : (o : Option Rule) → arg_by_id rules q.0 ≡ o → option_map_or (λ a. use_fault again a q.1 h.rows) o [] ≡ [] → RowsFit fits (used_by_id o q.1 h.rows)
            found None is ok = held
            found (Some a) is ok = found_fits (λ a. bytes_eq a.id q.0) rules a all is again q.1 h.rows ok held

    reacted_fits : (a : Rule) (values : List Text) (h : Held) → UseFits a → react_fault rules again a values h ≡ [] → RowsFit fits h.rows → RowsFit fits (reacted rules a values h).rows
    reacted_fits a values h uses e held =
        let parts = both_pass (settle_fault rules again h) (use_fault again a values (settled rules h).rows) e in
        uses again values (settled rules h).rows parts.1 (settled_fits h parts.0 held)

    option_fits : (a : Rule) (v : Option Text) (h : Held) → UseFits a → option_fault rules again a v h ≡ [] → RowsFit fits h.rows → RowsFit fits (option_met rules a v h).0.rows
    option_fits a (Some v) h uses e held = reacted_fits a (v ∷ []) h uses e held
    option_fits a None h uses e held = settled_fits h e held

    long_fits : (name : Text) (v : Option Text) (h : Held) → long_fault rules again (arg_by_long rules name) v h ≡ [] → RowsFit fits h.rows → RowsFit fits (long_met rules (arg_by_long rules name) v h).0.rows
    long_fits name v h e held = found (arg_by_long rules name) refl e
      where
        flag_fits : (a : Rule) (w : Option Text) → UseFits a → cond (is_some w) (TooManyValues ∷ []) (react_fault rules again a [] h) ≡ [] → RowsFit fits (flag_met rules a w h).0.rows
        flag_fits a None uses ok = reacted_fits a [] h uses ok held
        flag_fits a (Some w) uses ok = held

        takes : (a : Rule) → UseFits a → (b : Bool) → cond b (option_fault rules again a v h) (cond (is_some v) (TooManyValues ∷ []) (react_fault rules again a [] h)) ≡ []
            → RowsFit fits (cond b (option_met rules a v h) (flag_met rules a v h)).0.rows
        takes a uses true ok = option_fits a v h uses ok held
        takes a uses false ok = flag_fits a v uses ok

        found : (o : Option Rule) → arg_by_long rules name ≡ o → long_fault rules again o v h ≡ [] → RowsFit fits (long_met rules o v h).0.rows
        found None is ok = held
        found (Some a) is ok = takes a (found_fits (λ a. not (is_some a.index) && has_long a name) rules a all is) (takes_values a) ok

    -- a character of a bundle, where `on` reads the characters after it
    bundle_step_fits : (first : Option ℕ) (flags : Text) (skip : ℕ) (so_far : Outcome) (h : Held) (fails : Text → ℕ → Held → Kinds) (on : Text → ℕ → Outcome → Held → Held × Outcome)
        → ((more : Text) (less : ℕ) (so : Outcome) (now : Held) → fails more less now ≡ [] → RowsFit fits now.rows → RowsFit fits (on more less so now).0.rows)
        → bundle_step_fault rules again first flags skip h fails ≡ [] → RowsFit fits h.rows → RowsFit fits (bundle_step rules first flags skip so_far h on).0.rows
    bundle_step_fits None flags skip so_far h fails on others e held = held
    bundle_step_fits (Some x) flags (suc skip) so_far h fails on others e held = others _ _ so_far h e held
    bundle_step_fits (Some x) flags zero so_far h fails on others e held = found (arg_by_short rules x) refl e
      where
        takes : (a : Rule) → UseFits a → (b : Bool)
            → cond b (option_fault rules again a (attached_value (drop (length (encode_utf8 x)) flags)) h) (or_else (react_fault rules again a [] h) (fails (drop (length (encode_utf8 x)) flags) 0 (reacted rules a [] h))) ≡ []
            → RowsFit fits (cond b (option_met rules a (attached_value (drop (length (encode_utf8 x)) flags)) h) (on (drop (length (encode_utf8 x)) flags) 0 done (reacted rules a [] h))).0.rows
        takes a uses true ok = option_fits a (attached_value (drop (length (encode_utf8 x)) flags)) h uses ok held
        takes a uses false ok =
            let parts = both_pass (react_fault rules again a [] h) _ ok in
            others _ 0 done (reacted rules a [] h) parts.1 (reacted_fits a [] h uses parts.0 held)

        found : (o : Option Rule) → arg_by_short rules x ≡ o → short_fault rules again o (drop (length (encode_utf8 x)) flags) h (fails (drop (length (encode_utf8 x)) flags) 0) ≡ []
            → RowsFit fits (short_met rules o (drop (length (encode_utf8 x)) flags) h (on (drop (length (encode_utf8 x)) flags) 0 done)).0.rows
        found None is ok = held
        found (Some a) is ok = takes a (found_fits (λ a. not (is_some a.index) && has_short a x) rules a all is) (takes_values a) ok

    bundle_fits : (k : ℕ) (flags : Text) (skip : ℕ) (so_far : Outcome) (h : Held) → flags_fault rules again k flags skip h ≡ [] → RowsFit fits h.rows
        → RowsFit fits (bundle_met rules k flags skip so_far h).0.rows
    unfolding flags_fault bundle_met
    bundle_fits zero flags skip so_far h e held = held
    bundle_fits (suc k) flags skip so_far h e held =
        bundle_step_fits (slice_get (chars flags) 0) flags skip so_far h (flags_fault rules again k) (bundle_met rules k)
        (λ more less so now ok there. bundle_fits k more less so now ok there) e held

    plain_fits : (waiting : Waiting) (word : Text) (h : Held) → RowsFit fits h.rows → RowsFit fits (plain_word rules waiting word h).0.rows
    plain_fits idle word h held = held
    plain_fits positional word h held = held
    plain_fits (option id) word h held = found (arg_by_id rules id)
      where
        found : (o : Option Rule) → RowsFit fits (option_word o id word h).0.rows
        found None = held
        found (Some a) = held

    after_flag_fits : (waiting : Waiting) (word : Text) (h : Held) (outcome : Outcome) → RowsFit fits h.rows → RowsFit fits (after_flag rules waiting word h outcome).0.rows
    after_flag_fits waiting word h done held = held
    after_flag_fits waiting word h (waits id) held = held
    after_flag_fits waiting word h plain held = plain_fits waiting word h held
    after_flag_fits waiting word h refused held = plain_fits waiting word h held

    flag_word_fits : (waiting : Waiting) (word : Text) (long : Option (Text × Option Text)) (h : Held) → flag_word_fault rules again long word h ≡ [] → RowsFit fits h.rows
        → RowsFit fits (long_or_other rules waiting word long h).0.rows
    flag_word_fits waiting word (Some p) h e held =
        after_flag_fits waiting word (long_met rules (arg_by_long rules p.0) p.1 h).0 (long_met rules (arg_by_long rules p.0) p.1 h).1 (long_fits p.0 p.1 h e held)
    flag_word_fits waiting word None h e held = short (short_of word) e
      where
        short : (o : Option Text) → option_map_or (λ flags. bundle_fault rules again flags h) o [] ≡ [] → RowsFit fits (short_or_plain rules waiting word o h).0.rows
        short None ok = plain_fits waiting word h held
        short (Some flags) ok =
            after_flag_fits waiting word (bundle rules flags h).0 (bundle rules flags h).1 (bundle_fits (length flags) flags h.skip plain (record h { skip = 0 }) ok held)

  module _ (s : Shape) (names : Names) (all : UsesFit s.rules) where
    met_fits : (w : Walk) (word : Text) → word_fault s names w.is_trailing w.waiting word w.held ≡ [] → RowsFit fits w.held.rows
        → RowsFit fits (word_met s.rules names w.is_trailing w.waiting w.position word w.held).0.rows
    met_fits w word e held = trails w.is_trailing e
      where
        dashes : (b : Bool) → cond b [] (flag_word_fault s.rules s.args_override_self (long_of word) word w.held) ≡ []
            → RowsFit fits (cond b (w.held, trailing w.position) (long_or_other s.rules w.waiting word (long_of word) w.held)).0.rows
        dashes true ok = held
        dashes false ok = flag_word_fits s.rules s.args_override_self all w.waiting word (long_of word) w.held ok held

        names_one : (o : Option Text) → other_fault s o word w.held ≡ [] → RowsFit fits (subcommand_or_other s.rules o w.waiting w.position word w.held).0.rows
        names_one (Some name) ok = held
        names_one None ok = dashes (bytes_eq word (45 ∷ 45 ∷ [])) ok

        trails : (b : Bool) → word_fault s names b w.waiting word w.held ≡ [] → RowsFit fits (word_met s.rules names b w.waiting w.position word w.held).0.rows
        trails true ok = held
        trails false ok = names_one (subcommand_met names w.waiting word) ok

    positional_fits : (a : Rule) (word : Text) (h : Held) → positional_fault s.rules s.args_override_self a h ≡ [] → RowsFit fits h.rows → RowsFit fits (positional_held s.rules a word h).rows
    positional_fits a word h e held = goes_on (is_pending a h.pending && takes_several a) e
      where
        goes_on : (b : Bool) → cond b [] (settle_fault s.rules s.args_override_self h) ≡ [] → RowsFit fits (cond b h (settled s.rules h)).rows
        goes_on true ok = held
        goes_on false ok = settled_fits s.rules s.args_override_self all h ok held

    step_fits : (w : Walk) (word : Text) (h : Held) (step : Step) → step_fault s w.position h step ≡ [] → RowsFit fits h.rows → RowsFit fits (after_step s.rules word w h step).held.rows
    step_fits w word h (next waiting) e held = held
    step_fits w word h (trailing position) e held = held
    step_fits w word h (subcommand name) e held = held
    step_fits w word h value e held = found (arg_by_index s.rules w.position) e
      where
        found : (o : Option Rule) → option_map_or (λ a. positional_fault s.rules s.args_override_self a h) o (stray_fault s) ≡ [] → RowsFit fits (to_positional s.rules o word w h).held.rows
        found None ok = held
        found (Some a) ok = positional_fits a word h ok held

    turn_fits : (w : Walk) (word : Text) → turn_fault s names w word ≡ [] → RowsFit fits w.held.rows → RowsFit fits (walked s.rules names w word).held.rows
    unfolding walked
    turn_fits w word e held = stops w.stopped e
      where
        stops : (o : Option (Text × List Text)) → cond (is_some o) [] (or_else (word_fault s names w.is_trailing w.waiting word w.held)
            (step_fault s w.position (word_met s.rules names w.is_trailing w.waiting w.position word w.held).0 (word_met s.rules names w.is_trailing w.waiting w.position word w.held).1)) ≡ []
            → RowsFit fits (walked_from s.rules names o w word).held.rows
        stops (Some p) ok = held
        stops None ok =
            let parts = both_pass (word_fault s names w.is_trailing w.waiting word w.held) _ ok in
            step_fits w word _ _ parts.1 (met_fits w word parts.0 held)

    pub walk_fits : (w : Walk) (words : List Text) → walk_fault s names w words ≡ [] → RowsFit fits w.held.rows → RowsFit fits (fold (walked s.rules names) w words).held.rows
    unfolding walk_fault
    walk_fits w [] e held = held
    walk_fits w (word ∷ words) e held =
        let parts = both_pass (turn_fault s names w word) _ e in
        walk_fits (walked s.rules names w word) words parts.1 (turn_fits w word parts.0 held)
