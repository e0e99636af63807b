use Rattle.std.proofs.Common.{sym, subst, true, ◌≡◌, ◌||◌}
use Rattle.std.proofs.lemmas.Result.{IfOk-weaker}
use Rattle.std.specs.FinMap as map
use Rattle.jc_classes.specs.NameLists.{Lists}
use Rattle.jc_classes.specs.Names.{Name}
use Rattle.jc_session.specs.inside.FolderNames.{is_name_in}
use Rattle.jc_session.proofs.walking.NamesSorted.{names_sorted}
use Rattle.jc_session.proofs.walk.sorted.Goals as goal

pub returns : goal.returns
returns c =
    let bytes = c.args.names.now in
    let each = c.sort_into.new.each in
    let put = subst (λ first. (n : Name) → map.contains_key each n ≡ (map.contains_key first n || is_name_in bytes n)) c.new-each.ensures c.in_ok-sort_into.ensures in
    IfOk-weaker c.into_keys.result _ _ (λ names same. subst (λ l. Lists l (λ n. is_name_in bytes n ≡ true)) (sym same) (names_sorted each bytes put)) c.into_keys.ensures
