use Rattle.std.proofs.Common.{◌∙◌, ◌∷◌, ◌++◌, [], ap, append-nil, get_or, sym, take}
use Rattle.std.specs.List.{flat_map}
use Rattle.std.specs.Option.{option_to_list}
use Rattle.std.proofs.lemmas.Grind.{flat_map-append}
use Rattle.std.proofs.lemmas.List.{take_more}
use Rattle.jc_code.specs.declared.insn.LinkKind.TheVariants as kinds
use Rattle.jc_code.specs.declared.method_use.MethodUse.{MethodUse}
use Rattle.jc_classes.specs.LinkErrors.{link_of}
use Rattle.jc_classes.proofs.texts.Entries.{shown_some}
use Rattle.jc_resolve.specs.inside.LinkErrors.{link_shown}
use Rattle.jc_resolve.proofs.linked.links_of.Goals as goal

pub loop-one-preserved : goal.loop-one-preserved
loop-one-preserved c =
    let d = c.args.own.now in
    let f = c.args.facts.now in
    let answers = c.args.answers.now in
    let items = c.uses-one-items.result.now in
    let i = c.loop-one.one-index in
    let told = λ (u : MethodUse). option_to_list (link_of d f answers u) in
    let none : MethodUse = record { method = 0; place = 0; kind = kinds.GetStatic; index = 0 } in
    let one = get_or items i none in
    let more = shown_some (link_shown f.references answers) c.push_some.new.links.items c.loop-one.links.items c.entry_of.result (link_of d f answers one) c.in_ok-push_some.ensures c.entry_of.ensures in
    more
    ∙ ap (λ xs. xs ++ told one) c.loop-one.invariant
    ∙ ap (λ xs. flat_map told (take i items) ++ xs) (sym (append-nil (told one)))
    ∙ sym (ap (flat_map told) (take_more items i none c.loop-one-test.true) ∙ flat_map-append told (take i items) (one ∷ []))
