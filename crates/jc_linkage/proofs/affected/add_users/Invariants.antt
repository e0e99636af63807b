use Rattle.std.proofs.Common.{◌≡◌, ◌++◌, take}
use Rattle.std.specs.List.{filter}
use Rattle.std.specs.Option.{option_copied}
use Rattle.jc_classes.specs.Names.{names_of}
use Rattle.jc_linkage.specs.inside.Users.{has_list, is_wanted}
use Rattle.jc_linkage.proofs.affected.add_users.Given as goal

abbrev pub invariant-loop-name : goal.invariant-loop-name
invariant-loop-name l = names_of l.users.items ≡ names_of l.fn.users.items ++ filter (is_wanted (option_copied l.gone) (has_list l.others)) (names_of (take l.name-index l.name-items))
