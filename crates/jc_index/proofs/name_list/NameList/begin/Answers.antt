use Rattle.std.proofs.Common.{◌≡◌, ◌+◌, ◌-◌, ◌<◌, ℕ, length, List, arith, subst}
use Rattle.std.proofs.lemmas.List.{length-map}
use Rattle.std.specs.declared.cmp.Ordering.TheVariants.{Less}
use Rattle.std.specs.declared.vec.Vec.{Vec}
use Rattle.std.specs.declared.alloc.Global.{Global}
use Rattle.jc_classes.specs.Names.{Name, names_of}
use Rattle.jc_index.specs.inside.Places.{IsNarrowed}
use Rattle.jc_index.proofs.lists.Searching.{held_at, narrowed_all, narrowed_up}
use Rattle.jc_index.proofs.name_list.NameList.begin.Goals as goal

pub returns-in-Less : goal.returns-in-Less
returns-in-Less c =
    let names = c.self.inside.names.items in
    let name = c.args.name.now in
    let count = c.len-count.result in
    let size = length-map names (λ (v : Vec ℕ Global). v.items) in
    let all : count ≡ length (names_of names) = omega (arith, c.len-count.ensures, c.self.inside.names.ok, size) in
    let last : count - 1 < length names = omega (arith, c.if-count-eq0.false, all, size) in
    let behind : count - 1 + 1 ≡ count = omega (arith, c.if-count-eq0.false) in
    subst (λ (ns : List Name). IsNarrowed ns name count (length ns)) c.self.view_is
    (subst (λ n. IsNarrowed (names_of names) name n (length (names_of names))) behind
    (narrowed_up (names_of names) name 0 (length (names_of names)) (count - 1) c.self.invariant (narrowed_all (names_of names) name) (omega (arith, last, size))
    (held_at names (count - 1) c.index.result.now c.as_slice.result.now name Less last c.index.ensures c.as_slice.ensures.value c.in-Less.ensures)))
