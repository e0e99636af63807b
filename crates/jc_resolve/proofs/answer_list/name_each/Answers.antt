use Rattle.std.proofs.Common.{ℕ, ◌≡◌, ◌<◌, ◌∷◌, [], Option, None, Some, length, get_or, ap, ◌∙◌, arith}
use Rattle.std.proofs.lemmas.List.{length-append}
use Rattle.std.proofs.lemmas.Option.{slice_get-get_or}
use Rattle.std.specs.List.{slice_get}
use Rattle.jc_numbered.specs.inside.Indexed.{indexed_name}
use Rattle.jc_numbered.specs.inside.Shown.{indexed_of}
use Rattle.jc_resolve.specs.declared.entry.Entry.{Entry}
use Rattle.jc_resolve.specs.declared.entry.Entry.TheVariants as entry
use Rattle.jc_resolve.proofs.answering.Entries.{named_push, none_named}
use Rattle.jc_resolve.proofs.answer_list.name_each.Goals as goal

pub loop-number-init : goal.loop-number-init
loop-number-init c =
    let name = indexed_name (indexed_of c.args.classes.now) in
    record {
      names = c.requires.names;
      size = ap length c.requires.named;
      named = none_named name c.args.names.now.texts c.args.nodes.now c.args.entries.now c.args.named.now.items c.requires.named;
    }

pub loop-number-preserved : goal.loop-number-preserved
loop-number-preserved c =
    let name = indexed_name (indexed_of c.args.classes.now) in
    let nodes = c.args.nodes.now in
    let entries = c.args.entries.now in
    let number = c.loop-number.number in
    let named = c.loop-number.named.items in
    let answer = c.in_ok-answer.answer in
    let more = c.in_ok-push.ensures.items in
    let h = c.in_ok-answer.ensures in
    let size : length named ≡ number = c.loop-number.invariant.size in
    let within : number < length entries = c.loop-number-test.true in
    let own : Option ℕ = get_or nodes number None in
    let this : Entry ℕ = get_or entries number (entry.ToClass 0) in
    let node : slice_get nodes number ≡ Some own = slice_get-get_or nodes number None (omega (arith, within, c.requires.size)) in
    let got : slice_get entries number ≡ Some this = slice_get-get_or entries number (entry.ToClass 0) within in
    record {
      names = h.names;
      size = ap length more ∙ length-append named (answer ∷ []) ∙ omega (arith, size);
      named = named_push name c.loop-number.names.texts c.entry.new.self.texts nodes entries named answer c.push.new.self.items own this h.front c.loop-number.invariant.named (ap (slice_get nodes) size ∙ node) (ap (slice_get entries) size ∙ got) h.named more;
    }

pub returns-clause-size : goal.returns-clause-size
returns-clause-size c = omega (arith, c.loop-number.invariant.size, c.loop-number-test.false, c.loop-number.auto.number-end)

pub returns-clause-named : goal.returns-clause-named
returns-clause-named c = c.loop-number.invariant.named
