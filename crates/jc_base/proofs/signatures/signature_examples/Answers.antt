use Rattle.std.proofs.Common.{[], ◌∷◌, codes, refl, arith, lit<}
use Rattle.jc_base.specs.Signatures.{Mark, Many, ClassType, Param, Bound, ReferenceType, Params, absent, present, no_more, one_more, class_signature, class_reference, variable_reference, type_variable, params, ends, reads, names, expands, identifier_stops}
use Rattle.jc_base.proofs.texts.Names.{lacks_by_test}
use Rattle.jc_base.proofs.grammar.WaysToDerive.{reference_of, mark_of, nothing_of}
use Rattle.jc_base.proofs.grammar.SignaturesAreTexts.{named_by_test, class_derived, param_derived}
use Rattle.jc_base.proofs.grammar.Identifiers.{run_of, mark_stops, semicolon_stops}
use Rattle.jc_base.proofs.grammar.Stack.{no_empty_signature}
use Rattle.jc_base.proofs.signatures.signature_examples.Goals as goal

pub returns : goal.returns
returns c = record {
  variable = expands _ _ _ _ variable_reference (expands _ _ _ _ type_variable (reads 84 _ _ (names (codes "T") _ _ (codes ";") (named_by_test (codes "T") (lit< tt) refl refl) refl (reads 59 _ _ ends))));
  empty_bound =
      expands _ _ _ _ class_signature (expands _ _ _ _ (present Params) (expands _ _ _ _ params (reads 60 _ _
      (param_derived (codes "A") (Many Param ∷ Mark 62 ∷ ClassType ∷ Many ClassType ∷ []) (codes "Tx:Lo;>Lb;") (named_by_test (codes "A") (lit< tt) refl refl)
      (expands _ _ _ _ (absent ReferenceType) (expands _ _ _ _ (no_more Bound) (expands _ _ _ _ (one_more Param)
      (param_derived (codes "Tx") (Many Param ∷ Mark 62 ∷ ClassType ∷ Many ClassType ∷ []) (codes "Lo;>Lb;") (named_by_test (codes "Tx") (lit< tt) refl refl)
      (expands _ _ _ _ (present ReferenceType) (expands _ _ _ _ class_reference
      (class_derived (codes "o") (Many Bound ∷ Many Param ∷ Mark 62 ∷ ClassType ∷ Many ClassType ∷ []) (codes ">Lb;") (named_by_test (codes "o") (lit< tt) refl refl)
      (expands _ _ _ _ (no_more Bound) (expands _ _ _ _ (no_more Param) (reads 62 _ _
      (class_derived (codes "b") (Many ClassType ∷ []) [] (named_by_test (codes "b") (lit< tt) refl refl) (expands _ _ _ _ (no_more ClassType) ends))))))))))))))));
  base_type = reference_of [] 73 [] (λ e _. omega arith) (λ e _. omega arith) (λ e _. omega arith);
  nothing = λ kind. no_empty_signature kind [] refl;
  bytes_left = reference_of [] 84 (codes "T;x") (λ e _. omega arith)
      (λ _ d. mark_of 59 [] 59 (codes "x") (λ _ d. nothing_of 120 [] d)
      (run_of (Mark 59 ∷ []) (codes "T;x") (codes "T") 59 (codes "x") (record { split = refl; lacks = lacks_by_test (codes "T") identifier_stops refl; stop = semicolon_stops }) (mark_stops 59 [] semicolon_stops) d).1)
      (λ e _. omega arith);
}
