use Rattle.std.proofs.Common.{refl, [], ◌∷◌, ap, length, codes, inl, inr, arith, lit<}
use Rattle.std.proofs.lemmas.List.Elements.{All-from_recursion}
use Rattle.jc_base.specs.Names.{IsUnqualifiedName, method_name_stops}
use Rattle.jc_base.proofs.texts.Names.{name_by_test, lacks_by_test, class_name_by_split}
use Rattle.jc_base.proofs.names.name_examples.Goals as goal

pub returns : goal.returns
returns c = record {
  word = name_by_test _ (lit< tt) refl refl;
  bracketed = name_by_test _ (lit< tt) refl refl;
  empty = λ name. name.1 refl;
  array = λ name. name.2 0 0 (lit< tt) (2, lit< tt, refl);
  path = λ name. name.2 1 0 (lit< tt) (3, lit< tt, refl);
  closed = name_by_test _ (lit< tt) refl refl;
  parted = λ name. name.2 1 0 (lit< tt) (1, lit< tt, refl);
  method = inr (name_by_test (codes "main") (lit< tt) refl refl, lacks_by_test (codes "main") method_name_stops refl);
  constructor = inl (inl refl);
  bracketed_method = λ name. elim name [
    | inl (inl e) ↦ omega (arith, ap length e)
    | inl (inr e) ↦ omega (arith, ap length e)
    | inr plain ↦ plain.1 0 0 (lit< tt) (0, lit< tt, refl)
  ];
  closed_method = λ name. elim name [
    | inl (inl e) ↦ omega (arith, ap length e)
    | inl (inr e) ↦ omega (arith, ap length e)
    | inr plain ↦ plain.1 1 0 (lit< tt) (1, lit< tt, refl)
  ];
  parted_method = λ name. elim name [
    | inl (inl e) ↦ omega (arith, ap length e)
    | inl (inr e) ↦ omega (arith, ap length e)
    | inr plain ↦ plain.0.2 1 0 (lit< tt) (1, lit< tt, refl)
  ];
  class = (
    codes "java" ∷ codes "lang" ∷ codes "Object" ∷ [],
    (λ e. omega (arith, ap length e)),
    All-from_recursion IsUnqualifiedName (codes "java" ∷ codes "lang" ∷ codes "Object" ∷ [])
        (name_by_test _ (lit< tt) refl refl, (name_by_test _ (lit< tt) refl refl, (name_by_test _ (lit< tt) refl refl, tt))),
    refl,
  );
  one_part = (
    codes "Main" ∷ [],
    (λ e. omega (arith, ap length e)),
    All-from_recursion IsUnqualifiedName (codes "Main" ∷ []) (name_by_test _ (lit< tt) refl refl, tt),
    refl,
  );
  no_part = λ name. ((class_name_by_split (codes "")).1 name 0 [] (lit< tt)).1 refl;
  empty_part = λ name. ((class_name_by_split (codes "a//b")).1 name 1 [] (lit< tt)).1 refl;
  empty_first = λ name. ((class_name_by_split (codes "/a")).1 name 0 [] (lit< tt)).1 refl;
  empty_last = λ name. ((class_name_by_split (codes "a/")).1 name 1 [] (lit< tt)).1 refl;
  array_class = λ name. ((class_name_by_split (codes "[Ljava/lang/Object;")).1 name 0 [] (lit< tt)).2 0 0 (lit< tt) (2, lit< tt, refl);
  closed_class = (
    codes "a>b" ∷ [],
    (λ e. omega (arith, ap length e)),
    All-from_recursion IsUnqualifiedName (codes "a>b" ∷ []) (name_by_test _ (lit< tt) refl refl, tt),
    refl,
  );
  parted_class = λ name. ((class_name_by_split (codes "a;b")).1 name 0 [] (lit< tt)).2 1 0 (lit< tt) (1, lit< tt, refl);
}
