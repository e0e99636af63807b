use Rattle.std.proofs.Common.{◌≡◌, ◌∙◌, ◌++◌, ◌==◌, ℕ, true, false, List, [], length, ap, arith, subst, sym}
use Rattle.std.specs.FinMap as map
use Rattle.std.specs.List.{list_any}
use Rattle.std.specs.Prelude.{OnOk}
use Rattle.std.proofs.lemmas.List.{append-nil}
use Rattle.jc_view.specs.declared.constant_pool.ConstantIndex.{ConstantIndex}
use Rattle.jc_classes.specs.NameLists.{has}
use Rattle.jc_classes.specs.ResolvedDescriptors.{classes_at}
use Rattle.jc_classes.specs.UsedConstants.{is_resolved}
use Rattle.jc_classes.proofs.using.DescriptorClasses.{empty_list, no_classes, same_classes}
use Rattle.jc_classes.proofs.descriptor_classes.add_resolved_classes.Goals as goal

none_kept : {X : Type 0} (xs : List X) (n : ℕ) → n ≡ length xs → (n == 0) ≡ true → xs ≡ []
none_kept xs n is e = empty_list xs (ap (λ (k : ℕ). k == 0) (sym is) ∙ e)

-- without a descriptor there is no class
pub returns-then-is_empty : goal.returns-then-is_empty
returns-then-is_empty c =
    let class = c.args.class.now in
    let names = c.args.names.now.items in
    let none : c.in_ok-descriptors.descriptors.items ≡ [] = none_kept c.in_ok-descriptors.descriptors.items c.in_ok-descriptors.descriptors.len (omega (arith, c.in_ok-descriptors.descriptors.ok)) (sym c.is_empty.ensures ∙ c.if-is_empty.true) in
    sym (append-nil names)
    ∙ ap (λ v. names ++ v)
    (sym (no_classes class)
    ∙ same_classes (λ n. false) (is_resolved class) class
    (λ n. ap (list_any (λ (index : ConstantIndex). has (classes_at class index) n)) (sym none ∙ c.in_ok-descriptors.ensures)))

pub returns : goal.returns
returns c =
    let class = c.args.class.now in
    let names = c.args.names.now.items in
    let found = c.in_ok-found.found in
    subst (λ v. OnOk c.add_classes_found.result (c.add_classes_found.new.names.items ≡ names ++ v))
    (same_classes (map.contains_key found) (is_resolved class) class
    (λ n. c.in_ok-found.ensures n ∙ ap (list_any (λ (index : ConstantIndex). has (classes_at class index) n)) (c.deref.ensures.value ∙ c.in_ok-descriptors.ensures)))
    c.add_classes_found.ensures
