use Rattle.std.proofs.Common.{◌≡◌, IfErr, IfOk, None, Some, codes, map, option_map, rules}
use Rattle.clap.specs.Matches.{found_of, matched_of, raw_values}
use Rattle.jc_session.specs.Words.{AreRefused, HoldsGiven}
use Rattle.jc_session.specs.inside.Requests.{FailsFor}
use Rattle.jc_session.proofs.asking.FoundAmong.{by_given}
use Rattle.jc_session.proofs.words.outside.Goals as goal

pub returns-in-Some-clause-held : goal.returns-in-Some-clause-held
returns-in-Some-clause-held c =
    let f = found_of c.args.matches.now in
    let texts = map (λ prefix. prefix.now) c.in-Some.prefixes.now in
    let some : Some texts ≡ option_map raw_values (matched_of f (codes "outside")) = search rules in
    by_given f (λ texts. IfOk c.given_prefixes.result (HoldsGiven texts)) (codes "outside") (Some texts) some c.given_prefixes.ensures.held

pub returns-in-Some-clause-proper : goal.returns-in-Some-clause-proper
returns-in-Some-clause-proper c =
    let f = found_of c.args.matches.now in
    let texts = map (λ prefix. prefix.now) c.in-Some.prefixes.now in
    let some : Some texts ≡ option_map raw_values (matched_of f (codes "outside")) = search rules in
    by_given f (λ texts. IfOk c.given_prefixes.result (λ _. ¬ (AreRefused texts))) (codes "outside") (Some texts) some c.given_prefixes.ensures.proper

pub returns-in-Some-clause-fault : goal.returns-in-Some-clause-fault
returns-in-Some-clause-fault c =
    let f = found_of c.args.matches.now in
    let texts = map (λ prefix. prefix.now) c.in-Some.prefixes.now in
    let some : Some texts ≡ option_map raw_values (matched_of f (codes "outside")) = search rules in
    by_given f (λ texts. IfErr c.given_prefixes.result (FailsFor (AreRefused texts))) (codes "outside") (Some texts) some c.given_prefixes.ensures.fault

pub returns-in-None-clause-held : goal.returns-in-None-clause-held
returns-in-None-clause-held c =
    let f = found_of c.args.matches.now in
    let none : None ≡ option_map raw_values (matched_of f (codes "outside")) = search rules in
    by_given f (λ texts. HoldsGiven texts c.standard.result) (codes "outside") None none c.standard.ensures

pub returns-in-None-clause-proper : goal.returns-in-None-clause-proper
returns-in-None-clause-proper c =
    let f = found_of c.args.matches.now in
    let none : None ≡ option_map raw_values (matched_of f (codes "outside")) = search rules in
    by_given f (λ texts. ¬ (AreRefused texts)) (codes "outside") None none (λ refused. refused)
