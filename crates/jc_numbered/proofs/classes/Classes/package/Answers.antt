use Rattle.std.proofs.Common.{◌≡◌, ◌<◌, ◌≤◌, ◌∙◌, ap, arith, length, slice_index, sym, take}
use Rattle.std.proofs.lemmas.List.{length-take-le}
use Rattle.std.proofs.lemmas.Option.{gets}
use Rattle.jc_classes.specs.Names.{package_of}
use Rattle.jc_numbered.specs.inside.Indexed.{indexed_name}
use Rattle.jc_numbered.specs.inside.Shown.{indexed_of}
use Rattle.jc_numbered.proofs.lookups.PackageLemmas.{end_at, no_end, package_front, package_short}
use Rattle.jc_numbered.proofs.classes.Classes.package.Goals as goal

end_is : (c : goal.After-row_known-1) → c.in-Some.end.now ≡ length (package_of (indexed_name (indexed_of c.args.self.now) c.args.node))
end_is c =
    let ends = c.deref.result.now in
    let within : c.args.node < length ends = grind (arith, gets, c.in-Some.ensures.lookup) in
    let here : slice_index ends c.args.node ≡ c.in-Some.end.now = grind (arith, gets, c.in-Some.ensures.lookup) in
    end_at c.args.self.now.names.now ends (c.deref.ensures.value ∙ c.args.self.now.packages) c.args.node c.in-Some.end.now within here

pub slice_bounds-result-end : goal.slice_bounds-result-end
slice_bounds-result-end c =
    let name = indexed_name (indexed_of c.args.self.now) c.args.node in
    sym (length-take-le c.in-Some.end.now c.name.result.now (omega (arith, end_is c, package_short name, ap length c.name.ensures)))

pub returns-in-Some : goal.returns-in-Some
returns-in-Some c =
    let name = indexed_name (indexed_of c.args.self.now) c.args.node in
    ap (take c.in-Some.end.now) c.name.ensures ∙ ap (λ n. take n name) (end_is c) ∙ package_front name

pub returns-in-None : goal.returns-in-None
returns-in-None c =
    let ends = c.deref.result.now in
    let past : length ends ≤ c.args.node = grind (arith, gets, c.in-None.ensures.lookup) in
    no_end c.args.self.now.names.now ends (c.deref.ensures.value ∙ c.args.self.now.packages) c.args.node past
