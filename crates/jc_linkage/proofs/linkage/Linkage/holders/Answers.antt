use Rattle.std.proofs.Common.{◌≡◌, ◌∙◌, length, ap, sym}
use Rattle.std.proofs.lemmas.List.{length-map}
use Rattle.std.specs.declared.alloc.Global.{Global}
use Rattle.std.specs.declared.vec.Vec.{Vec}
use Rattle.std.specs.Prelude.{ℕ}
use Rattle.jc_linkage.proofs.held.Holders.{holders_counted, no_row}
use Rattle.jc_linkage.proofs.held.Holding.{held_of}
use Rattle.jc_linkage.proofs.linkage.Linkage.holders.Goals as goal

pub returns-in-Some : goal.returns-in-Some
returns-in-Some c =
    let a = c.args.self.now in
    let inside = c.self.inside in
    let held = held_of a inside.table inside.outside c.self.view_is inside.kept inside.dependants c.self.invariant.0 in
    let list = c.in-Some.holders.now in
    let held_names = c.names.result.now in
    let count : length held_names ≡ length list = sym (length-map held_names (λ (v : Vec ℕ Global). v.items)) ∙ ap length c.names.ensures.names in
    λ classes are rows of. holders_counted a inside.kept inside.dependants held classes are c.rows_have_users.ensures rows of c.args.place list c.in-Some.ensures c.names.ensures.rises (length held_names) count

pub returns-in-None : goal.returns-in-None
returns-in-None c =
    let a = c.args.self.now in
    let inside = c.self.inside in
    let held = held_of a inside.table inside.outside c.self.view_is inside.kept inside.dependants c.self.invariant.0 in
    λ classes are rows of. no_row a inside.kept inside.dependants held classes are c.rows_have_users.ensures rows of c.args.place c.in-None.ensures
