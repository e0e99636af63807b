use Rattle.std.proofs.Common.{◌≡◌, IsSome, None, Some, codes, false, inl, inr, map, option_map, refl, rules, true, ⊎_elim}
use Rattle.std.proofs.lemmas.Bool.{false≢true}
use Rattle.std.proofs.lemmas.Result.{err_from_is_err_and}
use Rattle.clap.specs.Matches.{found_of, matched_of, raw_values}
use Rattle.jc_session.specs.Words.{AreRefused, TellsOnly}
use Rattle.jc_session.specs.inside.Requests.{FailsFor}
use Rattle.jc_session.proofs.asking.FoundAmong.{by_given, flag_is, is_given, lacking, not_given, not_lacking}
use Rattle.jc_session.proofs.words.form.Goals as goal

pub returns-then-used_only-clause-fault : goal.returns-then-used_only-clause-fault
returns-then-used_only-clause-fault c =
    let f = found_of c.args.matches.now in
    let off : c.get_flag.result ≡ false = search rules in
    let on : c.get_flag-used_only.result ≡ true = search rules in
    inl (refl, inr (lacking f (codes "errors") c.get_flag.result c.requires.errors c.get_flag.ensures.value off, inr (is_given f (codes "used") c.get_flag-used_only.result c.requires.used c.get_flag-used_only.ensures.other on)))

pub returns-else-used_only-clause-asks : goal.returns-else-used_only-clause-asks
returns-else-used_only-clause-asks c =
    let f = found_of c.args.matches.now in
    let off : c.get_flag.result ≡ false = search rules in
    let unused : c.get_flag-used_only.result ≡ false = search rules in
    let none : None ≡ option_map raw_values (matched_of f (codes "only")) = search rules in (
      lacking f (codes "errors") c.get_flag.result c.requires.errors c.get_flag.ensures.value off,
      lacking f (codes "used") c.get_flag-used_only.result c.requires.used c.get_flag-used_only.ensures.value unused,
      by_given f (λ texts. texts ≡ None) (codes "only") None none refl,
    )

pub returns-else-used_only-clause-proper : goal.returns-else-used_only-clause-proper
returns-else-used_only-clause-proper c =
    let f = found_of c.args.matches.now in
    let unused : c.get_flag-used_only.result ≡ false = search rules in
    let none : None ≡ option_map raw_values (matched_of f (codes "only")) = search rules in
    let accepted = by_given f (λ texts. ¬ (AreRefused texts)) (codes "only") None none (λ refused. refused) in
    let alone = by_given f (λ texts. ¬ (IsSome texts)) (codes "only") None none (λ some. false≢true some) in
    λ bad. ⊎_elim accepted (λ without. ⊎_elim alone (not_given f (codes "used") c.get_flag-used_only.result c.get_flag-used_only.ensures.value unused) without.1) bad

pub returns-in-false-Some-clause-fault : goal.returns-in-false-Some-clause-fault
returns-in-false-Some-clause-fault c =
    let f = found_of c.args.matches.now in
    let off : c.get_flag.result ≡ false = search rules in
    let texts = map (λ prefix. prefix.now) c.in-false-Some.field-0-1.now in
    let some : Some texts ≡ option_map raw_values (matched_of f (codes "only")) = search rules in
    let named : IsSome (Some texts) = search rules in
    inl (refl, inr (lacking f (codes "errors") c.get_flag.result c.requires.errors c.get_flag.ensures.value off, inl (by_given f (λ texts. IsSome texts) (codes "only") (Some texts) some named)))

pub returns-in-true-None-clause-asks : goal.returns-in-true-None-clause-asks
returns-in-true-None-clause-asks c =
    let f = found_of c.args.matches.now in
    let on : c.get_flag.result ≡ true = search rules in
    let none : None ≡ option_map raw_values (matched_of f (codes "only")) = search rules in (
      is_given f (codes "errors") c.get_flag.result c.requires.errors c.get_flag.ensures.other on,
      by_given f (λ texts. TellsOnly texts None) (codes "only") None none refl,
      flag_is f (codes "used") c.get_flag-used_only.result c.requires.used c.get_flag-used_only.ensures.value c.get_flag-used_only.ensures.other,
    )

pub returns-in-true-None-clause-proper : goal.returns-in-true-None-clause-proper
returns-in-true-None-clause-proper c =
    let f = found_of c.args.matches.now in
    let on : c.get_flag.result ≡ true = search rules in
    let none : None ≡ option_map raw_values (matched_of f (codes "only")) = search rules in
    let accepted = by_given f (λ texts. ¬ (AreRefused texts)) (codes "only") None none (λ refused. refused) in
    λ bad. ⊎_elim accepted (λ without. not_lacking f (codes "errors") c.get_flag.result c.get_flag.ensures.other on without.0) bad

pub returns-in_ok-only-in-true-Some-clause-asks : goal.returns-in_ok-only-in-true-Some-clause-asks
returns-in_ok-only-in-true-Some-clause-asks c =
    let f = found_of c.args.matches.now in
    let on : c.get_flag.result ≡ true = search rules in
    let texts = map (λ prefix. prefix.now) c.in-true-Some.prefixes.now in
    let some : Some texts ≡ option_map raw_values (matched_of f (codes "only")) = search rules in
    let named : IsSome (Some texts) = search rules in (
      is_given f (codes "errors") c.get_flag.result c.requires.errors c.get_flag.ensures.other on,
      by_given f (λ texts. TellsOnly texts (Some c.in_ok-only-in-true-Some.only)) (codes "only") (Some texts) some (named, c.in_ok-only-in-true-Some.ensures.held),
      flag_is f (codes "used") c.get_flag-used_only.result c.requires.used c.get_flag-used_only.ensures.value c.get_flag-used_only.ensures.other,
    )

pub returns-in_ok-only-in-true-Some-clause-proper : goal.returns-in_ok-only-in-true-Some-clause-proper
returns-in_ok-only-in-true-Some-clause-proper c =
    let f = found_of c.args.matches.now in
    let on : c.get_flag.result ≡ true = search rules in
    let texts = map (λ prefix. prefix.now) c.in-true-Some.prefixes.now in
    let some : Some texts ≡ option_map raw_values (matched_of f (codes "only")) = search rules in
    let proper : ¬ (AreRefused (Some texts)) = c.in_ok-only-in-true-Some.ensures.proper in
    let accepted = by_given f (λ texts. ¬ (AreRefused texts)) (codes "only") (Some texts) some proper in
    λ bad. ⊎_elim accepted (λ without. not_lacking f (codes "errors") c.get_flag.result c.get_flag.ensures.other on without.0) bad

pub returns-in_err-only-in-true-Some-clause-fault : goal.returns-in_err-only-in-true-Some-clause-fault
returns-in_err-only-in-true-Some-clause-fault c =
    let f = found_of c.args.matches.now in
    let texts = map (λ prefix. prefix.now) c.in-true-Some.prefixes.now in
    let some : Some texts ≡ option_map raw_values (matched_of f (codes "only")) = search rules in
    let exit = err_from_is_err_and c.from_residual.result c.from_residual.ensures.1 in
    let failed : FailsFor (AreRefused (Some texts)) c.in_err-only-in-true-Some.field-0.0 = c.in_err-only-in-true-Some.ensures.fault in
    rw (exit.1, exit.2) (⊎_elim (λ usage. inl (usage.0, inl (by_given f AreRefused (codes "only") (Some texts) some usage.1))) (λ memory. inr memory) failed)
