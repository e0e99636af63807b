use Rattle.std.proofs.Common.{◌≡◌, ◌∙◌, ◌<◌, ℕ, Some, length, sym, ap, subst, arith}
use Rattle.std.proofs.lemmas.List.{length-set}
use Rattle.jc_numbered.specs.inside.Shown.{indexed_of}
use Rattle.jc_numbered.proofs.lookups.Chain.{super_node}
use Rattle.jc_numbered.proofs.lookups.SubclassLemmas.{own_below, place_below, set_below}
use Rattle.jc_numbered.proofs.subclasses.add.Goals as goal

pub index-requires : goal.index-requires
index-requires c =
    let first = c.args.found.now.first.ok in
    let size = c.requires.within.first_size in
    let l = super_node (length c.args.classes.now.standing.now) (indexed_of c.args.classes.now) c.args.classes.now.graph c.args.node c.in-Some.above (sym c.in-Some.ensures) in
    omega arith

pub index_mut-requires-in-Some : goal.index_mut-requires-in-Some
index_mut-requires-in-Some c =
    let first = c.args.found.now.first.ok in
    let size = c.requires.within.first_size in
    let l = super_node (length c.args.classes.now.standing.now) (indexed_of c.args.classes.now) c.args.classes.now.graph c.args.node c.in-Some.above (sym c.in-Some.ensures) in
    omega arith

pub returns-in-Some : goal.returns-in-Some
returns-in-Some c =
    let count = length c.args.classes.now.standing.now in
    let old = c.args.found.now in
    let is = c.requires.within in
    let size = is.first_size in
    let above = c.in-Some.above in
    let l = super_node count (indexed_of c.args.classes.now) c.args.classes.now.graph c.args.node above (sym c.in-Some.ensures) in
    record {
      first_size = length-set old.first.items above (Some c.args.node) ∙ is.first_size;
      next_size = length-set old.next.items c.args.node c.index.result.now ∙ is.next_size;
      first = set_below count old.first.items above (Some c.args.node) is.first (own_below count c.args.node c.requires.node);
      next = set_below count old.next.items c.args.node c.index.result.now is.next
          (place_below count old.first.items above c.index.result.now is.first (omega arith) c.index.ensures);
      root = is.root;
    }

pub returns-in-None : goal.returns-in-None
returns-in-None c =
    let count = length c.args.classes.now.standing.now in
    let old = c.args.found.now in
    let is = c.requires.within in
    record {
      first_size = is.first_size;
      next_size = length-set old.next.items c.args.node old.root ∙ is.next_size;
      first = is.first;
      next = set_below count old.next.items c.args.node old.root is.next is.root;
      root = own_below count c.args.node c.requires.node;
    }
