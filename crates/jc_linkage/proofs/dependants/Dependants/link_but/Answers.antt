use Rattle.std.proofs.Common.{◌&&◌, not}
use Rattle.std.proofs.lemmas.Result.{on_err_weaker}
use Rattle.jc_classes.specs.NameLists.{has}
use Rattle.jc_classes.specs.Names.{Name, same_name}
use Rattle.jc_index.specs.Indexes.{Between, users_of}
use Rattle.jc_linkage.specs.inside.Kept.{keys_of, linked, names_by}
use Rattle.jc_linkage.proofs.equations.LinkTests.{between_more}
use Rattle.jc_linkage.proofs.held.KeptMaps.{by_relation}
use Rattle.jc_linkage.proofs.dependants.Dependants.link_but.Goals as goal

pub returns-clause-err : goal.returns-clause-err
returns-clause-err c =
    on_err_weaker {P = (n d : Name) → Between (has (users_of c.args.self.now.required n) d) (same_name d c.args.class.now && (has (keys_of c.args.kept.now) n && not (has (keys_of c.args.other.now) n))) (has (users_of c.link_all_but-2.new.self n) d)}
    c.link_all_but-2.result
    (λ h. by_relation (λ r. (n d : Name) → Between (linked r c.args.self.now n d) (same_name d c.args.class.now && (has (names_by r c.args.kept.now) n && not (has (names_by r c.args.other.now) n))) (linked r (record { reach = c.link_all_but.new.self; required = c.link_all_but-2.new.self }) n d))
    (λ n d. between_more _ _ _ _ (c.in_ok-link_all_but.ensures.ok n d) (λ e. e))
    h)
    c.link_all_but-2.ensures.err
