use Rattle.std.proofs.Common.{◌≡◌, length}
use Rattle.jc_numbered.specs.inside.Indexed.{indexed_name}
use Rattle.jc_numbered.specs.inside.Shown.{indexed_of}
use Rattle.jc_resolve.specs.inside.Naming.{AreNamed, AreNames}
use Rattle.jc_resolve.proofs.answer_list.name_each.Given as goal

abbrev pub invariant-loop-number : goal.invariant-loop-number
invariant-loop-number l = record {
  names : AreNames (indexed_name (indexed_of l.classes)) l.names;
  size : length l.named.items ≡ l.number;
  named : AreNamed (indexed_name (indexed_of l.classes)) l.names.texts l.fn.nodes l.entries l.named.items;
}
