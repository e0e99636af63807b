use Rattle.std.proofs.Common.{◌≡◌, ◌&&◌, ◌||◌, false, ℕ, List, Some, None, sym, ap, subst, ◌∙◌}
use Rattle.std.specs.FinMap as fin
use Rattle.jc_base.specs.Bytes.{same_bytes}
use Rattle.jc_base.proofs.maps.FiniteMaps.{insert_found}
use Rattle.jc_edits.specs.inside.Claims.{NoneEmpty, has_claim, has_path}
use Rattle.jc_edits.proofs.holding.ClaimsOfPaths.{on_err_any, has_key-empty, has_key-insert, added, insert_fills, none_empty-insert}
use Rattle.jc_edits.proofs.claims.Claims.add.Goals as goal

pub returns-in_err-insert-clause-err : goal.returns-in_err-insert-clause-err
returns-in_err-insert-clause-err c =
    let old = c.self.inside.by_name in
    let name = c.args.name.now in
    let same : c.insert.new.self ≡ c.in-Some.paths.now = c.in_err-insert.ensures.err in
    on_err_any c.from_residual-in_err-insert.result (ap (fin.insert old name) same ∙ insert_found old name c.in-Some.paths.now (sym c.in-Some.ensures.value) ∙ c.self.view_is)

pub returns-in-Some-clause-ok : goal.returns-in-Some-clause-ok
returns-in-Some-clause-ok c =
    let name = c.args.name.now in
    let path = c.args.path.now in
    let paths = c.in-Some.paths.now in
    let more : (p : List ℕ) → fin.contains_key c.insert.new.self p ≡ (same_bytes p path || has_path (Some paths) p) =
    λ p. ap (λ m. fin.contains_key m p) c.in_ok-insert.ensures.ok ∙ has_key-insert paths c.in_ok-path.path.items tt p ∙ ap (λ x. same_bytes p x || fin.contains_key paths p) c.in_ok-path.ensures.items in
    λ n p. added c.self.inside.by_name name (Some paths) c.insert.new.self path (sym c.in-Some.ensures.value) more n p ∙ ap (λ m. (same_bytes n name && same_bytes p path) || has_claim m n p) c.self.view_is

pub returns-clause-ok : goal.returns-clause-ok
returns-clause-ok c =
    let old = c.self.inside.by_name in
    let name = c.args.name.now in
    let path = c.args.path.now in
    let paths = c.insert-2.new.self in
    let more : (p : List ℕ) → fin.contains_key paths p ≡ (same_bytes p path || has_path None p) =
    λ p. ap (λ m. fin.contains_key m p) (c.in_ok-insert-2.ensures.ok ∙ ap (λ m. fin.insert m c.in_ok-path.path.items tt) c.new-paths.ensures) ∙ has_key-insert fin.empty c.in_ok-path.path.items tt p
    ∙ ap (λ b. same_bytes p c.in_ok-path.path.items || b) (has_key-empty p) ∙ ap (λ x. same_bytes p x || false) c.in_ok-path.ensures.items in
    λ n p. ap (λ m. has_claim m n p) (c.in_ok-insert-3.ensures.ok ∙ ap (λ x. fin.insert old x paths) c.in_ok-name.ensures.items)
    ∙ added old name None paths path (sym c.in_default.ensures.value) more n p ∙ ap (λ m. (same_bytes n name && same_bytes p path) || has_claim m n p) c.self.view_is

pub invariant_of-self : goal.invariant_of-self
invariant_of-self c =
    let old = c.self.inside.by_name in
    let name = c.args.name.now in
    let same : c.insert.new.self ≡ c.in-Some.paths.now = c.in_err-insert.ensures.err in
    subst NoneEmpty (sym (ap (fin.insert old name) same ∙ insert_found old name c.in-Some.paths.now (sym c.in-Some.ensures.value))) c.self.invariant

pub invariant_of-self-in-Some : goal.invariant_of-self-in-Some
invariant_of-self-in-Some c =
    none_empty-insert c.self.inside.by_name c.args.name.now c.insert.new.self c.self.invariant
    (λ e. insert_fills c.in-Some.paths.now c.in_ok-path.path.items tt (sym c.in_ok-insert.ensures.ok ∙ e))

pub invariant_of-self-2 : goal.invariant_of-self-2
invariant_of-self-2 c =
    subst NoneEmpty (sym c.in_ok-insert-3.ensures.ok) (none_empty-insert c.self.inside.by_name c.in_ok-name.name.items c.insert-2.new.self c.self.invariant
    (λ e. insert_fills c.new-paths.result c.in_ok-path.path.items tt (sym c.in_ok-insert-2.ensures.ok ∙ e)))
