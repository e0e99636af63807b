-- Identifiers within a signature: where one ends, and what follows it.
use Rattle.std.proofs.Common.{◌≡◌, ◌≢◌, ℕ, List, [], ◌∷◌, ◌++◌, drop, Option, Some, None, refl, sym, ap, ◌∙◌, subst, arith, lit<}
use Rattle.std.specs.List.{Contains}
use Rattle.std.proofs.lemmas.List.Elements.{All-head, All-tail}
use Rattle.jc_base.specs.declared.signatures.Owed.{Owed}
use Rattle.jc_base.specs.declared.signatures.Owed.TheVariants as entry
use Rattle.jc_base.specs.Names.{Lacks}
use Rattle.jc_base.specs.Signatures.{identifier_stops, Symbol, Mark, Identifier, Maybe, Many, ReferenceType, Package, SimpleClass, Suffix, Arguments, Argument, suffix, arguments, Param, Bound, no_more, one_more, package_name, simple_class, param, Derives, reads, names, expands, IsIdentifier}
use Rattle.jc_base.specs.inside.Owed.{before, Refuses, GivesEntry, IsStop, IsCut, BeginsWithName, BeginsWithStop, BeginsWithNoName, LeavesNamed, RefusesNamed, GivesNamed}
use Rattle.jc_base.proofs.grammar.WaysToDerive.{mark_of, maybe_of, many_of, suffixes_of, arguments_of, simple_class_of, package_of, param_of, identifier_of}

-- ---- where a name ends

-- two beginnings without stops, of one text: the second ends at a stop, so the first ends there too or earlier
same_end : (n name rest : List ℕ) (c : ℕ) (tail : List ℕ) → Lacks n identifier_stops → Lacks name identifier_stops → IsStop c → n ++ rest ≡ name ++ c ∷ tail → ((x : ℕ) (b : List ℕ) → rest ≡ x ∷ b → IsStop x)
    → (n ≡ name) × (rest ≡ c ∷ tail)
same_end [] [] rest c tail p q stop split next = (refl, split)
same_end [] (y ∷ name) rest c tail p q stop split next = absurd (All-head (λ c. Contains identifier_stops c → ⊥) y name q (next y (name ++ c ∷ tail) split))
same_end (x ∷ n) [] rest c tail p q stop split next = let e : x ≡ c = cc in absurd (All-head (λ c. Contains identifier_stops c → ⊥) x n p (subst IsStop (sym e) stop))
same_end (x ∷ n) (y ∷ name) rest c tail p q stop split next =
    let e : x ≡ y = cc in
    let same = same_end n name rest c tail (All-tail (λ c. Contains identifier_stops c → ⊥) x n p) (All-tail (λ c. Contains identifier_stops c → ⊥) y name q) stop (ap (drop 1) split) next in
    (ap (λ b. b ∷ n) e ∙ ap (λ b. y ∷ b) same.0, same.1)

pub run_of : (owed : List Symbol) (text name : List ℕ) (c : ℕ) (rest : List ℕ) → IsCut text name c rest → BeginsWithStop owed → Derives (Identifier ∷ owed) text → IsIdentifier name × Derives owed (c ∷ rest)
run_of owed text name c rest cut begins d =
    identifier_of owed text (λ n r is split d.
    let same = same_end n name r c rest is.2 cut.lacks cut.stop (sym split ∙ cut.split) (λ x b e. begins.next x b (subst (Derives owed) e d)) in
    (subst IsIdentifier same.0 is, subst (Derives owed) same.1 d)) d

append_first : (n : List ℕ) (x : ℕ) (b : List ℕ) → Lacks (n ++ x ∷ b) identifier_stops → IsStop x → ⊥
append_first [] x b lacks stop = All-head (λ c. Contains identifier_stops c → ⊥) x b lacks stop
append_first (y ∷ n) x b lacks stop = append_first n x b (All-tail (λ c. Contains identifier_stops c → ⊥) y (n ++ x ∷ b) lacks) stop

pub no_stop_no_name : (text : List ℕ) → Lacks text identifier_stops → BeginsWithNoName text
no_stop_no_name text lacks owed begins d =
    identifier_of owed text (λ n r is split d. by_rest n r split d) d
  where
    by_rest : (n r : List ℕ) → text ≡ n ++ r → Derives owed r → ⊥
    by_rest n [] split d = begins.some d
    by_rest n (x ∷ b) split d = append_first n x b (subst (λ t. Lacks t identifier_stops) split lacks) (begins.next x b d)

pub no_text_no_name : (text name : List ℕ) (c : ℕ) (rest : List ℕ) → IsCut text name c rest → (IsIdentifier name → ⊥) → BeginsWithNoName text
no_text_no_name text name c rest cut refused owed begins d = refused (run_of owed text name c rest cut begins d).0

pub named_of : (owed : List Symbol) (text : List ℕ) (c : ℕ) (rest : List ℕ) → BeginsWithName text c rest → BeginsWithStop owed → Derives (Identifier ∷ owed) text → Derives owed (c ∷ rest)
named_of owed text c rest named begins d = (run_of owed text named.name c rest named.cut begins d).1

pub named_from : (owed : List Symbol) (text : List ℕ) (c : ℕ) (rest : List ℕ) → BeginsWithName text c rest → Derives owed (c ∷ rest) → Derives (Identifier ∷ owed) text
named_from owed text c rest named d = names named.name owed text (c ∷ rest) named.is named.cut.split d

-- ---- what begins with a stop

pub mark_some : (m : ℕ) (owed : List Symbol) → Derives (Mark m ∷ owed) [] → ⊥
mark_some m owed (expands _ _ _ _ made d) = elim made [ ]

pub mark_stops : (m : ℕ) (owed : List Symbol) → IsStop m → BeginsWithStop (Mark m ∷ owed)
mark_stops m owed stop = record {
  next = λ c rest d. mark_of m owed c rest (λ e _. subst IsStop e stop) d;
  some = mark_some m owed;
}

suffixes_some : (owed : List Symbol) → Derives (Many Suffix ∷ Mark 59 ∷ owed) [] → ⊥
suffixes_some owed d = many_of Suffix (Mark 59 ∷ owed) [] (mark_some 59 owed) (λ d. suffix_some (Many Suffix ∷ Mark 59 ∷ owed) d) d
  where
    suffix_some : (owed : List Symbol) → Derives (Suffix ∷ owed) [] → ⊥
    suffix_some owed (expands _ _ _ _ suffix d) = mark_some 46 (SimpleClass ∷ owed) d

arguments_some : (owed : List Symbol) → Derives (Arguments ∷ owed) [] → ⊥
arguments_some owed (expands _ _ _ _ arguments d) = mark_some 60 (Argument ∷ Many Argument ∷ Mark 62 ∷ owed) d

pub dot_stops : IsStop 46
dot_stops = (0, lit< tt, refl)

pub semicolon_stops : IsStop 59
semicolon_stops = (1, lit< tt, refl)

pub bracket_stops : IsStop 91
bracket_stops = (2, lit< tt, refl)

pub slash_stops : IsStop 47
slash_stops = (3, lit< tt, refl)

pub less_stops : IsStop 60
less_stops = (4, lit< tt, refl)

pub colon_stops : IsStop 58
colon_stops = (6, lit< tt, refl)

pub name_end_stops : (owed : List Symbol) → BeginsWithStop (Maybe Arguments ∷ Many Suffix ∷ Mark 59 ∷ owed)
name_end_stops owed = record {
  next = λ c rest d. maybe_of Arguments (Many Suffix ∷ Mark 59 ∷ owed) (c ∷ rest)
      (suffixes_of owed c rest (λ e _. subst IsStop e semicolon_stops) (λ e _. subst IsStop e dot_stops))
      (arguments_of (Many Suffix ∷ Mark 59 ∷ owed) c rest (λ e _. subst IsStop e less_stops)) d;
  some = λ d. maybe_of Arguments (Many Suffix ∷ Mark 59 ∷ owed) [] (suffixes_some owed) (arguments_some (Many Suffix ∷ Mark 59 ∷ owed)) d;
}

-- ---- the entries that begin with a name

pub variable_ends : (c : ℕ) → c ≡ 59 → LeavesNamed (Identifier ∷ Mark 59 ∷ []) c (before None)
variable_ends c e owed text rest named = (
  λ d. mark_of 59 owed c rest (λ _ d. d) (named_of (Mark 59 ∷ owed) text c rest named (mark_stops 59 owed semicolon_stops) d),
  λ d. named_from (Mark 59 ∷ owed) text c rest named (subst (λ x. Derives (Mark 59 ∷ owed) (x ∷ rest)) (sym e) (reads 59 _ _ d)),
)

pub variable_refused : (c : ℕ) → c ≢ 59 → RefusesNamed (Identifier ∷ Mark 59 ∷ []) c
variable_refused c other owed text rest named d =
    mark_of 59 owed c rest (λ e _. other (sym e)) (named_of (Mark 59 ∷ owed) text c rest named (mark_stops 59 owed semicolon_stops) d)

pub simple_goes_on : (c : ℕ) (answer : Option (Option Owed)) → GivesEntry (Maybe Arguments ∷ Many Suffix ∷ Mark 59 ∷ []) c answer → GivesNamed (SimpleClass ∷ Many Suffix ∷ Mark 59 ∷ []) c answer
simple_goes_on c None h = λ owed text rest named d.
    h owed rest (named_of (Maybe Arguments ∷ Many Suffix ∷ Mark 59 ∷ owed) text c rest named (name_end_stops owed) (simple_class_of (Many Suffix ∷ Mark 59 ∷ owed) text d))
simple_goes_on c (Some entry) h = λ owed text rest named. (
  λ d. (h owed rest).0 (named_of (Maybe Arguments ∷ Many Suffix ∷ Mark 59 ∷ owed) text c rest named (name_end_stops owed) (simple_class_of (Many Suffix ∷ Mark 59 ∷ owed) text d)),
  λ d. expands _ _ _ _ simple_class (named_from (Maybe Arguments ∷ Many Suffix ∷ Mark 59 ∷ owed) text c rest named ((h owed rest).1 d)),
)

pub name_end_refuses : (c : ℕ) → c ≢ 60 → c ≢ 46 → c ≢ 59 → Refuses (Maybe Arguments ∷ Many Suffix ∷ Mark 59 ∷ []) c
name_end_refuses c p q r owed rest d =
    maybe_of Arguments (Many Suffix ∷ Mark 59 ∷ owed) (c ∷ rest) (suffixes_of owed c rest (λ e _. r (sym e)) (λ e _. q (sym e))) (arguments_of (Many Suffix ∷ Mark 59 ∷ owed) c rest (λ e _. p (sym e))) d

pub package_goes_on : (c : ℕ) → c ≡ 47 → LeavesNamed (Many Package ∷ SimpleClass ∷ Many Suffix ∷ Mark 59 ∷ []) c (before (Some entry.ClassName))
package_goes_on c e owed text rest named =
    let more : List Symbol = Many Package ∷ SimpleClass ∷ Many Suffix ∷ Mark 59 ∷ owed in (
      λ d. many_of Package (SimpleClass ∷ Many Suffix ∷ Mark 59 ∷ owed) text
          (λ d. absurd (name_end_refuses c (λ f. omega arith) (λ f. omega arith) (λ f. omega arith) owed rest (named_of (Maybe Arguments ∷ Many Suffix ∷ Mark 59 ∷ owed) text c rest named (name_end_stops owed) (simple_class_of (Many Suffix ∷ Mark 59 ∷ owed) text d))))
          (λ d. mark_of 47 more c rest (λ _ d. d) (named_of (Mark 47 ∷ more) text c rest named (mark_stops 47 more slash_stops) (package_of more text d))) d,
      λ d. expands _ _ _ _ (one_more Package) (expands _ _ _ _ package_name (named_from (Mark 47 ∷ more) text c rest named (subst (λ x. Derives (Mark 47 ∷ more) (x ∷ rest)) (sym e) (reads 47 _ _ d)))),
    )

pub no_package : (c : ℕ) (answer : Option (Option Owed)) → c ≢ 47 → GivesNamed (SimpleClass ∷ Many Suffix ∷ Mark 59 ∷ []) c answer → GivesNamed (Many Package ∷ SimpleClass ∷ Many Suffix ∷ Mark 59 ∷ []) c answer
no_package c None other h = λ owed text rest named d.
    let more : List Symbol = Many Package ∷ SimpleClass ∷ Many Suffix ∷ Mark 59 ∷ owed in
    many_of Package (SimpleClass ∷ Many Suffix ∷ Mark 59 ∷ owed) text (λ d. h owed text rest named d)
    (λ d. mark_of 47 more c rest (λ e _. other (sym e)) (named_of (Mark 47 ∷ more) text c rest named (mark_stops 47 more slash_stops) (package_of more text d))) d
no_package c (Some entry) other h = λ owed text rest named.
    let more : List Symbol = Many Package ∷ SimpleClass ∷ Many Suffix ∷ Mark 59 ∷ owed in (
      λ d. many_of Package (SimpleClass ∷ Many Suffix ∷ Mark 59 ∷ owed) text (λ d. (h owed text rest named).0 d)
          (λ d. mark_of 47 more c rest (λ e _. absurd (other (sym e))) (named_of (Mark 47 ∷ more) text c rest named (mark_stops 47 more slash_stops) (package_of more text d))) d,
      λ d. expands _ _ _ _ (no_more Package) ((h owed text rest named).1 d),
    )

pub param_goes_on : (c : ℕ) → c ≡ 58 → LeavesNamed (Param ∷ Many Param ∷ Mark 62 ∷ []) c (before (Some entry.ClassBound))
param_goes_on c e owed text rest named =
    let more : List Symbol = Maybe ReferenceType ∷ Many Bound ∷ Many Param ∷ Mark 62 ∷ owed in (
      λ d. mark_of 58 more c rest (λ _ d. d) (named_of (Mark 58 ∷ more) text c rest named (mark_stops 58 more colon_stops) (param_of (Many Param ∷ Mark 62 ∷ owed) text d)),
      λ d. expands _ _ _ _ param (named_from (Mark 58 ∷ more) text c rest named (subst (λ x. Derives (Mark 58 ∷ more) (x ∷ rest)) (sym e) (reads 58 _ _ d))),
    )

pub param_refused : (c : ℕ) → c ≢ 58 → RefusesNamed (Param ∷ Many Param ∷ Mark 62 ∷ []) c
param_refused c other owed text rest named d =
    let more : List Symbol = Maybe ReferenceType ∷ Many Bound ∷ Many Param ∷ Mark 62 ∷ owed in
    mark_of 58 more c rest (λ e _. other (sym e)) (named_of (Mark 58 ∷ more) text c rest named (mark_stops 58 more colon_stops) (param_of (Many Param ∷ Mark 62 ∷ owed) text d))
