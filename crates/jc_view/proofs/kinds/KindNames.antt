-- Kinds of attributes and their names.
use Rattle.std.proofs.Common.{◌≡◌, ◌∙◌, ℕ, ◌<◌, true, false, List, get_or, Some, None, ap, sym, arith}
use Rattle.std.specs.List.{list_any}
use Rattle.std.proofs.lemmas.Bool.{false≢true, false_from_ne_true}
use Rattle.std.proofs.lemmas.List.Folds.{list_any_at}
use Rattle.std.proofs.lemmas.Slice.Eq.{bytes_eq-Decides}
use Rattle.jc_base.specs.Bytes.{same_bytes}
use Rattle.jc_view.specs.declared.attribute_kind.AttributeKind.{AttributeKind}
use Rattle.jc_view.specs.declared.attribute_kind.AttributeKind.TheVariants as kinds
use Rattle.jc_view.specs.Attributes.{attribute_name, is_kind}
use Rattle.jc_view.specs.declared.attribute_kind.TheConstants.{KINDS}

-- a name that is that of a kind is that of no other
pub named : (name : List ℕ) (k : AttributeKind) → same_bytes name (attribute_name k) ≡ true → (kind : AttributeKind) → same_bytes name (attribute_name kind) ≡ is_kind kind (Some k)
named name k e kind = ap (λ n. same_bytes n (attribute_name kind)) ((bytes_eq-Decides name (attribute_name k)).0 e)

-- a name that is none of those of all kinds
module _ (name : List ℕ) (none : list_any (λ k. same_bytes name (attribute_name k)) KINDS ≡ false) where
  not_at : (i : ℕ) → i < 9 → same_bytes name (attribute_name (get_or KINDS i kinds.Code)) ≡ false
  not_at i within =
      false_from_ne_true (same_bytes name (attribute_name (get_or KINDS i kinds.Code)))
      (λ hit. false≢true (sym none ∙ list_any_at (λ k. same_bytes name (attribute_name k)) KINDS i kinds.Code within hit))

  pub not_named : (kind : AttributeKind) → same_bytes name (attribute_name kind) ≡ is_kind kind None
  not_named kinds.Code = not_at 0 (omega arith)
  not_named kinds.Signature = not_at 1 (omega arith)
  not_named kinds.Exceptions = not_at 2 (omega arith)
  not_named kinds.ConstantValue = not_at 3 (omega arith)
  not_named kinds.SourceFile = not_at 4 (omega arith)
  not_named kinds.EnclosingMethod = not_at 5 (omega arith)
  not_named kinds.Synthetic = not_at 6 (omega arith)
  not_named kinds.Deprecated = not_at 7 (omega arith)
  not_named kinds.BootstrapMethods = not_at 8 (omega arith)
