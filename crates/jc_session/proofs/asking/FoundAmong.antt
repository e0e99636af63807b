-- What the getters of `clap` read of what it found, by the rows.
use Rattle.std.proofs.Common.{◌≡◌, ◌∙◌, Bool, List, None, Option, Some, codes, false, option_map, refl, subst, sym, true, ⊎_elim}
use Rattle.std.proofs.lemmas.Bool.{false≢true}
use Rattle.clap.specs.Matches.{first_value, matched_of, one_text, raw_values}
use Rattle.clap.specs.Walk.{rows_of}
use Rattle.clap.specs.declared.parser.matches.Found.{Found}
use Rattle.clap.proofs.WalkLemmas.{first_value-rows, one_text-rows, raw_values-rows}
use Rattle.jc_classes.specs.Names.{Name}
use Rattle.jc_session.specs.Words.{IsFlag, IsGiven, IsLacking, Word, given}
use Rattle.jc_session.specs.inside.Requests.{HasFlag, HasPath}

module _ (f : Found) where
  pub not_given : (flag : Word) (read : Bool) → (one_text f flag ≡ Some (codes "true") → read ≡ true) → read ≡ false → ¬ (IsGiven flag (rows_of f))
  not_given flag read true_by is has = false≢true (sym is ∙ true_by (one_text-rows f flag ∙ has))

  pub not_lacking : (flag : Word) (read : Bool) → (one_text f flag ≡ Some (codes "false") → read ≡ false) → read ≡ true → ¬ (IsLacking flag (rows_of f))
  not_lacking flag read false_by is lacks = false≢true (sym (false_by (one_text-rows f flag ∙ lacks)) ∙ is)

  -- a flag that is read as false is not given, and one that is read as true is
  pub lacking : (flag : Word) (read : Bool) → HasFlag flag (rows_of f) → (one_text f flag ≡ Some (codes "true") → read ≡ true) → read ≡ false → IsLacking flag (rows_of f)
  lacking flag read either true_by is = ⊎_elim (λ has. absurd (not_given flag read true_by is has)) (λ lacks. lacks) either

  pub is_given : (flag : Word) (read : Bool) → HasFlag flag (rows_of f) → (one_text f flag ≡ Some (codes "false") → read ≡ false) → read ≡ true → IsGiven flag (rows_of f)
  is_given flag read either false_by is = ⊎_elim (λ has. has) (λ lacks. absurd (not_lacking flag read false_by is lacks)) either

  -- a flag is what is read
  pub flag_is : (flag : Word) (read : Bool) → HasFlag flag (rows_of f) → (one_text f flag ≡ Some (codes "true") → read ≡ true) → (one_text f flag ≡ Some (codes "false") → read ≡ false)
      → IsFlag flag read (rows_of f)
  flag_is flag true either true_by false_by = is_given flag true either false_by refl
  flag_is flag false either true_by false_by = lacking flag false either true_by refl

  -- a path that has a value is read
  pub path_read : (name : Word) → HasPath name (rows_of f) → None ≡ first_value f name → ⊥
  path_read name has none = let some : None ≡ Some has.0 = none ∙ first_value-rows f name ∙ has.1 in cc

  -- what is said of the texts that a getter reads holds of the rows
  pub by_given : (P : Option (List Name) → Type 0) (option : Word) (texts : Option (List Name)) → texts ≡ option_map raw_values (matched_of f option) → P texts → P (given option (rows_of f))
  by_given P option texts is holds = subst P (is ∙ raw_values-rows f option) holds
