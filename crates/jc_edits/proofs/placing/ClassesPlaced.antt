-- The classes that files give once bytes, or none, stand at a path.
use Rattle.std.proofs.Common.{◌≡◌, ℕ, Bool, true, false, not, ◌&&◌, cond, List, [], Option, Some, None, Result, Ok, Err, option_map, refl, sym, ap, subst, ◌∙◌, ⊎_elim}
use Rattle.std.specs.Prelude.{option_and_then, if◌then◌else◌}
use Rattle.std.specs.declared.cmp.Ordering.{Ordering}
use Rattle.std.specs.declared.cmp.Ordering.TheVariants.{Less, Equal, Greater}
use Rattle.std.specs.Ordering.{is_lt, ordering_reverse}
use Rattle.std.specs.FinMap as fin
use Rattle.std.proofs.lemmas.Bool.{cases_Bool}
use Rattle.jc_base.specs.Bytes.{bytes_cmp, same_bytes}
use Rattle.jc_base.proofs.maps.FiniteMaps.{bytes_cmp_total, same_bytes_equiv, same_bytes_decides, eq_by_cmp-bytes_cmp, get-remove_same, remove_absent, insert-remove_found}
use Rattle.jc_view.specs.declared.parse_error.ParseError.{ParseError}
use Rattle.jc_view.specs.ClassFile.{ClassFile}
use Rattle.jc_view.specs.Outcome.{class_named, class_read}
use Rattle.jc_classes.specs.Facts.{Facts}
use Rattle.jc_classes.specs.FactsOf.{class_name, facts_of}
use Rattle.jc_classes.specs.Names.{Name, name_less, same_name}
use Rattle.jc_linkage.specs.Steps.{is_class}
use Rattle.jc_report.specs.Files.{Files}
use Rattle.jc_report.specs.FileRows.{names, names_by, winner}
use Rattle.jc_report.specs.Reports.{facts_at}
use Rattle.jc_report.specs.Winners.{wins}
use Rattle.jc_report.specs.inside.Kept.{stays}
use Rattle.jc_report.proofs.winners.OneMoreFile.{other_less, winner_apart, winner_unnamed, winner_first, winner_stays, winner_new}
use Rattle.jc_report.proofs.trees.NamedClasses.{class_of_name, class_of_refusal, facts_name}
use Rattle.jc_report.proofs.trees.FactsOfNames.{winner_facts, no_facts}
use Rattle.jc_report.proofs.trees.OneMoreFile.{facts_unnamed, facts_more}
use Rattle.jc_edits.specs.Touched.{is_path}
use Rattle.jc_edits.specs.inside.Changing.{lost, lost_by, won, won_by}

-- ---- tests

pub exact : (a b : Name) → same_bytes a b ≡ true → a ≡ b
exact a b e = (same_bytes_decides a b).0 e

pub same_here : (n : Name) → same_name n n ≡ true
same_here n = eq_by_cmp-bytes_cmp n n ∙ same_bytes_equiv.refl n

less_not : (o : Ordering) → o ≡ Less → is_lt (ordering_reverse o) ≡ false
less_not o e = ap (λ x. is_lt (ordering_reverse x)) e

lt_less : (o : Ordering) → is_lt o ≡ true → o ≡ Less
lt_less Less h = refl
lt_less Equal h = let e : false ≡ true = h in absurd cc
lt_less Greater h = let e : false ≡ true = h in absurd cc

-- of two paths that differ just one is less
one_less : (p q : List ℕ) (b : Bool) → same_bytes q p ≡ false → name_less q p ≡ b → name_less p q ≡ not b
one_less p q true apart less = ap is_lt (bytes_cmp_total.antisymm p q) ∙ less_not (bytes_cmp q p) (lt_less (bytes_cmp q p) less)
one_less p q false apart less = ap is_lt (other_less q p apart less)

-- ---- a class that is won

abbrev won_if : Bool → Facts → Option Facts
won_if b new = if b then Some new else None

is_won : (b : Bool) (new : Facts) (n : Name) (s : Bool) → same_name n new.name ≡ s → is_class (won_if b new) n ≡ (b && s)
is_won true new n s h = h
is_won false new n s h = refl

by_won : (b : Bool) (new : Facts) (n : Name) (s : Bool) (o : Option Facts) → same_name n new.name ≡ s → cond (is_class (won_if b new) n) (won_if b new) o ≡ cond (b && s) (Some new) o
by_won true new n s o h = ap (λ t. cond t (Some new) o) h
by_won false new n s o h = refl

pub path_at : (w : Option (List ℕ)) (p path : List ℕ) → w ≡ Some p → is_path w path ≡ same_bytes p path
path_at w p path h = ap (λ o. is_path o path) h

-- ---- bytes at a path where no file stood

-- which class stands there, and whether it is taken from the path
pub record Placed (g : Files) (path : List ℕ) (o : Option (List ℕ)) (after : Files) (n : Name) : Type 0 where
  pub class : facts_at after n ≡ cond (is_class (won g path o) n) (won g path o) (facts_at g n)
  pub taken : is_path (winner after n) path ≡ is_class (won g path o) n

module _ (g : Files) (path n : List ℕ) (absent : fin.get g path ≡ None) where
  not_taken : (w : Option (List ℕ)) → ((p : List ℕ) → w ≡ Some p → same_bytes p path ≡ false) → is_path w path ≡ false
  not_taken None h = refl
  not_taken (Some p) h = h p refl

  module _ (bytes : List ℕ) where
    abbrev more : Files
    more = fin.insert g path bytes

    others_apart : (p : List ℕ) → winner g n ≡ Some p → same_bytes p path ≡ false
    others_apart p h = winner_apart g path bytes n absent p h

    pub nothing_taken : is_path (winner g n) path ≡ false
    nothing_taken = not_taken (winner g n) others_apart

    -- bytes that do not name the class
    pub unnamed : names bytes n ≡ false → is_class (won g path (Some bytes)) n ≡ false → Placed g path (Some bytes) more n
    unnamed lacks apart = record {
      class = facts_unnamed g path bytes n absent lacks ∙ sym (ap (λ b. cond b (won g path (Some bytes)) (facts_at g n)) apart);
      taken = ap (λ w. is_path w path) (winner_unnamed g path bytes n absent lacks) ∙ nothing_taken ∙ sym apart;
    }

    module _ (c : ClassFile) (is_read : class_read bytes ≡ Ok c) where
      abbrev new : Facts
      new = facts_of path c

      abbrev goes_first : Bool
      goes_first = wins path (winner g (class_name c))

      won_is : won g path (Some bytes) ≡ won_if goes_first new
      won_is = ap (won_by g path) is_read

      pub won_here : (s : Bool) → same_name n (class_name c) ≡ s → is_class (won g path (Some bytes)) n ≡ (goes_first && s)
      won_here s h = ap (λ o. is_class o n) won_is ∙ is_won goes_first new n s (ap (same_name n) (facts_name path c) ∙ h)

      class_is : (s : Bool) → same_name n (class_name c) ≡ s → cond (is_class (won g path (Some bytes)) n) (won g path (Some bytes)) (facts_at g n) ≡ cond (goes_first && s) (Some new) (facts_at g n)
      class_is s h = ap (λ o. cond (is_class o n) o (facts_at g n)) won_is ∙ by_won goes_first new n s (facts_at g n) (ap (same_name n) (facts_name path c) ∙ h)

      -- bytes that name it
      pub named_by : names bytes n ≡ true → n ≡ class_name c → (w : Option (List ℕ)) → winner g n ≡ w → Placed g path (Some bytes) more n
      named_by has is None none =
          let here : same_name n (class_name c) ≡ true = ap (same_name n) (sym is) ∙ same_here n in
          let first : goes_first ≡ true = ap (λ x. wins path (winner g x)) (sym is) ∙ ap (wins path) none in
          let both : (goes_first && true) ≡ true = ap (λ b. b && true) first in
          record {
            class = facts_more g path bytes n absent c is_read has ∙ ap (λ o. Some (stays path new o)) (no_facts g n none)
                ∙ sym (class_is true here ∙ ap (λ b. cond b (Some new) (facts_at g n)) both);
            taken = path_at (winner more n) path path (winner_first g path bytes n absent has none) ∙ same_bytes_equiv.refl path ∙ sym (won_here true here ∙ both);
          }
      named_by has is (Some q) there =
          let here : same_name n (class_name c) ≡ true = ap (same_name n) (sym is) ∙ same_here n in
          let given = winner_facts g n q there in
          let old = facts_of q given.class in
          let apart = others_apart q there in
          let first : (b : Bool) → name_less q path ≡ b → goes_first ≡ not b =
          λ b less. ap (λ x. wins path (winner g x)) (sym is) ∙ ap (wins path) there ∙ one_less path q b apart less in
          let stay : (b : Bool) → name_less q path ≡ b → Some (stays path new (facts_at g n)) ≡ Some (cond b old new) =
          λ b less. ap (λ o. Some (stays path new o)) given.gives ∙ ap (λ t. Some (cond t old new)) (ap (λ x. name_less x path) given.is_path ∙ less) in
          ⊎_elim
          (λ less.
          let not_first : (goes_first && true) ≡ false = ap (λ b. b && true) (first true less) in
          let kept : Placed g path (Some bytes) more n = record {
            class = facts_more g path bytes n absent c is_read has ∙ stay true less ∙ sym given.gives
                ∙ sym (class_is true here ∙ ap (λ b. cond b (Some new) (facts_at g n)) not_first);
            taken = path_at (winner more n) q path (winner_stays g path bytes n absent q there less) ∙ apart ∙ sym (won_here true here ∙ not_first);
          } in
          kept)
          (λ miss.
          let is_first : (goes_first && true) ≡ true = ap (λ b. b && true) (first false miss) in
          let wins : Placed g path (Some bytes) more n = record {
            class = facts_more g path bytes n absent c is_read has ∙ stay false miss
                ∙ sym (class_is true here ∙ ap (λ b. cond b (Some new) (facts_at g n)) is_first);
            taken = path_at (winner more n) path path (winner_new g path bytes n absent q has there miss) ∙ same_bytes_equiv.refl path ∙ sym (won_here true here ∙ is_first);
          } in
          wins)
          (cases_Bool (name_less q path))

    and_no : (b : Bool) → (b && false) ≡ false
    and_no true = refl
    and_no false = refl

    placed_by : (outcome : Result Name ParseError) → class_named bytes ≡ outcome → Placed g path (Some bytes) more n
    placed_by (Ok k) is =
        let agrees = class_of_name bytes k is in
        let c = agrees.class in
        ⊎_elim
        (λ same.
        let one : n ≡ k = exact n k same in
        let has : names bytes n ≡ true = ap (λ o. names_by o n) is ∙ same_bytes_equiv.symm k n ∙ same in
        named_by c agrees.is_read has (one ∙ sym agrees.is_name) (winner g n) refl)
        (λ differs.
        let lacks : names bytes n ≡ false = ap (λ o. names_by o n) is ∙ same_bytes_equiv.symm k n ∙ differs in
        let elsewhere : same_name n (class_name c) ≡ false = ap (same_name n) agrees.is_name ∙ eq_by_cmp-bytes_cmp n k ∙ differs in
        unnamed lacks (won_here c agrees.is_read false elsewhere ∙ and_no (wins path (winner g (class_name c)))))
        (cases_Bool (same_bytes n k))
    placed_by (Err refusal) is =
        unnamed (ap (λ o. names_by o n) is) (ap (λ r. is_class (won_by g path r) n) (class_of_refusal bytes refusal is))

    pub placed : Placed g path (Some bytes) (fin.insert g path bytes) n
    placed = placed_by (class_named bytes) refl

-- ---- the same for the files with this at the path

abbrev pub with_at : Files → List ℕ → Option (List ℕ) → Files
with_at g path None = g
with_at g path (Some bytes) = fin.insert g path bytes

pub placed_at : (g : Files) (path : List ℕ) (o : Option (List ℕ)) (n : Name) → fin.get g path ≡ None → Placed g path o (with_at g path o) n
placed_at g path None n absent = record { class = refl; taken = nothing_taken g path n absent [] }
placed_at g path (Some bytes) n absent = placed g path n absent bytes

-- files are the others with what stands at the path
pub others_with : (f : Files) (path : List ℕ) (o : Option (List ℕ)) → fin.get f path ≡ o → with_at (fin.remove f path) path o ≡ f
others_with f path None is = remove_absent f path is
others_with f path (Some bytes) is = insert-remove_found f path bytes is

-- ---- the name that is lost

named_new : (b : Bool) (facts : Facts) (k : Name) → facts.name ≡ k → (if b then Some k else None) ≡ option_map (λ (x : Facts). x.name) (won_if b facts)
named_new true facts k e = ap (λ (x : Name). Some x) (sym e)
named_new false facts k e = refl

module _ (f : Files) (path : List ℕ) where
  abbrev others : Files
  others = fin.remove f path

  lost_as : (bytes : List ℕ) → fin.get f path ≡ Some bytes → (outcome : Result Name ParseError) → class_named bytes ≡ outcome → lost_by f path outcome ≡ option_map (λ (x : Facts). x.name) (won others path (Some bytes))
  lost_as bytes is (Ok k) named =
      let agrees = class_of_name bytes k named in
      let c = agrees.class in
      let there : Placed others path (Some bytes) f k =
      subst (λ h. Placed others path (Some bytes) h k) (others_with f path (Some bytes) is) (placed_at others path (Some bytes) k (get-remove_same f path)) in
      let at_k : same_name k (class_name c) ≡ true = ap (same_name k) agrees.is_name ∙ same_here k in
      let first = wins path (winner others (class_name c)) in
      let taken : is_path (winner f k) path ≡ (first && true) = there.taken ∙ won_here others path k (get-remove_same f path) bytes c agrees.is_read true at_k in
      ap (λ b. if b then Some k else None) (taken ∙ and_yes first)
      ∙ named_new first (facts_of path c) k (facts_name path c ∙ agrees.is_name)
      ∙ ap (λ o. option_map (λ (x : Facts). x.name) (won_by others path o)) (sym agrees.is_read)
    where
      and_yes : (b : Bool) → (b && true) ≡ b
      and_yes true = refl
      and_yes false = refl
  lost_as bytes is (Err refusal) named = ap (λ r. option_map (λ (x : Facts). x.name) (won_by others path r)) (sym (class_of_refusal bytes refusal named))

  lost_by_bytes : (o : Option (List ℕ)) → fin.get f path ≡ o → option_and_then (λ b. lost_by f path (class_named b)) o ≡ option_map (λ (x : Facts). x.name) (won others path o)
  lost_by_bytes None is = refl
  lost_by_bytes (Some bytes) is = lost_as bytes is (class_named bytes) refl

  pub lost_name : lost f path ≡ option_map (λ (x : Facts). x.name) (won (fin.remove f path) path (fin.get f path))
  lost_name = lost_by_bytes (fin.get f path) refl
