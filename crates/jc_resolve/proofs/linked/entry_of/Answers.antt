use Rattle.std.proofs.Common.{◌≡◌, ◌∙◌, None, Some, option_map, ap, sym}
use Rattle.jc_resolve.specs.inside.LinkErrors.{link_shown}
use Rattle.jc_resolve.specs.inside.Numbers.{number_from}
use Rattle.jc_resolve.proofs.linking.Judging.{no_link, one_link}
use Rattle.jc_resolve.proofs.linked.entry_of.Goals as goal

pub returns-in_err-reference : goal.returns-in_err-reference
returns-in_err-reference c =
    let f = c.args.facts.now in
    let none : number_from 0 c.args.one.index f.references ≡ None = sym (c.requires.numbers c.args.one.index) ∙ sym c.number_at.ensures ∙ c.in_err-reference.was in
    ap (option_map (link_shown f.references c.args.answers.now)) c.from_residual.ensures
    ∙ no_link c.args.own.now f c.args.answers.now c.args.one none

pub returns-in_err-error : goal.returns-in_err-error
returns-in_err-error c =
    let f = c.args.facts.now in
    let some : number_from 0 c.args.one.index f.references ≡ Some c.in_ok-reference.reference = sym (c.requires.numbers c.args.one.index) ∙ sym c.number_at.ensures ∙ c.in_ok-reference.was in
    ap (option_map (link_shown f.references c.args.answers.now)) c.from_residual-in_err-error.ensures
    ∙ one_link c.args.own.now f c.args.answers.now c.args.one c.in_ok-reference.reference c.judge.result None c.requires.size some
    (λ r a got told. c.judge.ensures r a (record { reference = got; answer = told })) c.in_err-error.was

pub returns : goal.returns
returns c =
    let f = c.args.facts.now in
    let some : number_from 0 c.args.one.index f.references ≡ Some c.in_ok-reference.reference = sym (c.requires.numbers c.args.one.index) ∙ sym c.number_at.ensures ∙ c.in_ok-reference.was in
    one_link c.args.own.now f c.args.answers.now c.args.one c.in_ok-reference.reference c.judge.result (Some c.in_ok-error.error) c.requires.size some
    (λ r a got told. c.judge.ensures r a (record { reference = got; answer = told })) c.in_ok-error.was
