use Rattle.std.proofs.Common.{◌≡◌, ◌∙◌, ◌∷◌, ◌++◌, map, ap, subst, ◌+◌, sym, arith, length}
use Rattle.std.specs.List.{flat_map}
use Rattle.std.specs.Iterator.Adapters.{enumerate_source, enumerate_count}
use Rattle.jc_view.specs.declared.attribute_kind.Holder.TheVariants as holders
use Rattle.jc_view.specs.Places.{methods_in, methods_place}
use Rattle.jc_file.proofs.kinds.PlacedMembers.{AreOf, are_of_all, members_of, members_of_all}
use Rattle.jc_code.specs.MethodFaults.{code_faults, code_faults_from, method_faults}
use Rattle.jc_code.specs.MethodUses.{method_uses, uses, uses_from}
use Rattle.jc_code.specs.NamedConstants.{named_by_method}
use Rattle.jc_classes.specs.UsedConstants.{named_by_methods}
use Rattle.jc_classes.proofs.using.Adding.{next_added}
use Rattle.jc_classes.specs.inside.FirstUsers.{IsEmpty}
use Rattle.jc_classes.specs.inside.Using.{are_marks}
use Rattle.jc_classes.proofs.using.FirstUsers.{found_all, found_next, found_none, none_marked, none_seen}
use Rattle.jc_classes.proofs.texts.FaultsOfMethods.{next_method, next_uses}
use Rattle.std.proofs.lemmas.List.{append_assoc}
use Rattle.jc_classes.proofs.read_facts.read_methods.Goals as goal

pub loop-number-init : goal.loop-number-init
unfolding code_faults uses
loop-number-init c =
    let class = c.args.sizes.now in
    let it = c.into_iter-number-iterator.result in
    let all : enumerate_source it ≡ record { class = class; left = methods_in class } = cc in
    let same : enumerate_source it ≡ c.methods.result = cc in
    let first : enumerate_count it ≡ 0 = cc in
    let faults : code_faults_from class (enumerate_count it) (members_of (enumerate_source it).left) ≡ code_faults class =
    ap (λ n. code_faults_from class n (members_of (enumerate_source it).left)) first ∙ ap (λ i. code_faults_from class 0 (members_of i.left)) all
    ∙ ap (code_faults_from class 0) (members_of_all holders.Method (methods_place class + 2) class.methods) in
    let used : uses_from class (enumerate_count it) (members_of (enumerate_source it).left) ≡ uses class =
    ap (λ n. uses_from class n (members_of (enumerate_source it).left)) first ∙ ap (λ i. uses_from class 0 (members_of i.left)) all
    ∙ ap (uses_from class 0) (members_of_all holders.Method (methods_place class + 2) class.methods) in
    let named : flat_map (named_by_method class) (members_of (enumerate_source it).left) ≡ named_by_methods class =
    ap (λ i. flat_map (named_by_method class) (members_of i.left)) all
    ∙ ap (flat_map (named_by_method class)) (members_of_all holders.Method (methods_place class + 2) class.methods) in
    let none : IsEmpty class c.in_ok-first.first = subst (λ k. IsEmpty k c.in_ok-first.first) c.class.ensures c.in_ok-first.ensures in
    record {
      class = ap (λ i. i.class) all;
      holders = subst (λ i. AreOf holders.Method i.left) (sym all) (are_of_all holders.Method (methods_place class + 2) class.methods);
      few = omega (arith, first, ap (λ i. length i.left) same, c.methods.ensures.all, c.methods.ensures.few);
      faults = ap (λ xs. xs ++ code_faults_from class (enumerate_count it) (members_of (enumerate_source it).left)) c.new-2.ensures.items ∙ faults;
      uses = ap (λ xs. xs ++ uses_from class (enumerate_count it) (members_of (enumerate_source it).left)) c.new-3.ensures.items ∙ used;
      names = ap (λ xs. xs ++ flat_map (named_by_method class) (members_of (enumerate_source it).left)) c.new-4.ensures.items ∙ named;
      seen = none_seen class c.in_ok-first.first none;
      marks = none_marked class c.in_ok-first.first none ∙ ap (are_marks class) (sym c.new-4.ensures.items);
      found = found_none class c.in_ok-first.first (enumerate_count it) (members_of (enumerate_source it).left) none first
          (ap (λ i. members_of i.left) all ∙ members_of_all holders.Method (methods_place class + 2) class.methods);
    }

pub read_method-requires-clause-few : goal.read_method-requires-clause-few
read_method-requires-clause-few c =
    let steps = c.in-Some.ensures.steps in
    let at : c.in-Some.number ≡ enumerate_count c.loop-number.number-iterator = steps.1 in
    let some : length (enumerate_source c.loop-number.number-iterator).left ≡ length (enumerate_source c.next.new.self).left + 1 = ap length steps.0.1.0 ∙ omega arith in
    omega (arith, at, some, c.loop-number.invariant.few)

pub loop-number-preserved : goal.loop-number-preserved
loop-number-preserved c =
    let steps = c.in-Some.ensures.steps in
    let class = c.args.sizes.now in
    let m = c.in-Some.method.member in
    let old = c.loop-number.number-iterator in
    let new = c.next.new.self in
    let codes = c.loop-number.codes in
    let holders : AreOf holders.Method (m ∷ new.iter.left) = subst (AreOf holders.Method) steps.0.1.0 c.loop-number.invariant.holders in
    let mine = map (λ fault. (c.in-Some.number, fault)) (method_faults class m.member) in
    let rest = code_faults_from class new.count (members_of new.iter.left) in
    let next : code_faults_from class old.count (members_of old.iter.left) ≡ mine ++ rest = next_method class old.count c.in-Some.number new.count old.iter.left new.iter.left m steps.0.1.0 steps.1 steps.2 in
    let my_uses = method_uses class c.in-Some.number m.member in
    let more_uses = uses_from class new.count (members_of new.iter.left) in
    let used : uses_from class old.count (members_of old.iter.left) ≡ my_uses ++ more_uses = next_uses class old.count c.in-Some.number new.count old.iter.left new.iter.left m steps.0.1.0 steps.1 steps.2 in
    record {
      class = steps.0.0 ∙ c.loop-number.invariant.class;
      holders = holders.1;
      few = omega (arith, c.loop-number.invariant.few, ap length steps.0.1.0, steps.2);
      faults = ap (λ xs. xs ++ rest) c.in_ok-read_method.ensures.faults ∙ append_assoc codes.faults.items mine rest ∙ ap (λ xs. codes.faults.items ++ xs) (sym next) ∙ c.loop-number.invariant.faults;
      uses = ap (λ xs. xs ++ more_uses) c.in_ok-read_method.ensures.uses ∙ append_assoc codes.uses.items my_uses more_uses ∙ ap (λ xs. codes.uses.items ++ xs) (sym used) ∙ c.loop-number.invariant.uses;
      names = next_added (named_by_method class) codes.names.items c.read_method.new.codes.names.items (named_by_methods class) (members_of old.iter.left) (members_of new.iter.left) m.member (ap members_of steps.0.1.0)
          c.in_ok-read_method.ensures.names c.loop-number.invariant.names;
      seen = c.in_ok-read_method.ensures.seen;
      marks = c.in_ok-read_method.ensures.marks;
      found = found_next class old.count new.count c.in-Some.number (members_of old.iter.left) (members_of new.iter.left) m.member _ _ c.loop-number.invariant.seen.size (ap members_of steps.0.1.0) steps.1 steps.2
          c.in_ok-read_method.ensures.first c.loop-number.invariant.found;
    }

pub returns-clause-first : goal.returns-clause-first
returns-clause-first c =
    found_all c.args.sizes.now (enumerate_count c.loop-number.number-iterator) (members_of (enumerate_source c.loop-number.number-iterator).left) c.loop-number.codes.first.numbers.items
    (ap members_of c.in-None.ensures.steps.0.1.0) c.loop-number.invariant.found
