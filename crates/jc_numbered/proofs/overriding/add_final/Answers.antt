use Rattle.std.proofs.Common.{◌≡◌, ◌||◌, ◌∙◌, ℕ, List, ap}
use Rattle.std.specs.FinMap as map
use Rattle.std.proofs.lemmas.Bool.{or_left, or_right}
use Rattle.jc_classes.specs.Names.{same_name}
use Rattle.jc_classes.proofs.using.DescriptorClasses.{in_set}
use Rattle.jc_classes.proofs.worlds.NameTests.{same_self}
use Rattle.jc_numbered.proofs.overriding.add_final.Goals as goal

pub returns-in_ok-insert : goal.returns-in_ok-insert
returns-in_ok-insert c =
    let old = c.args.finals.now in
    let key = c.in_ok-from_slice.field-0.items in
    let own = c.args.method.name.now in
    let there : (name : List ℕ) → map.contains_key c.insert.new.self name ≡ (map.contains_key old name || same_name name key) =
    λ name. ap (λ m. map.contains_key m name) c.in_ok-insert.ensures.ok ∙ in_set old key name in
    record {
      stay = λ name h. there name ∙ or_left _ _ h;
      added = λ f. there own ∙ or_right (map.contains_key old own) _ (ap (same_name own) c.in_ok-from_slice.ensures.items ∙ same_self own);
    }
